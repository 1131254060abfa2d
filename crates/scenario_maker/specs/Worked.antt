-- The scenario that is made of number 0 for one manager.
use Rattle.std.specs.Prelude.{◌≡◌, [], ◌∷◌, ◌++◌, map, codes}
use Rattle.std.specs.List.{range_with_len}
use Rattle.scenario_maker.specs.Draws.{draw}
use Rattle.scenario_maker.specs.Made.{made, resources}

-- the first seven draws
abbrev pub FirstDraws : Type 0
FirstDraws = map (draw 0) (range_with_len 1 7) ≡ 48271 ∷ 182605794 ∷ 1291394886 ∷ 1914720637 ∷ 2078669041 ∷ 407355683 ∷ 1105902161 ∷ []

-- the text
abbrev pub FirstText : Type 0
FirstText =
    made 0 1
    ≡ codes
    "{\"managers\":[{\"calls\":[{\"at\":\"r4\",\"do\":[\"UPDATE acc SET m = m - 42 WHERE id = 7\"]},{\"at\":\"r3\",\"do\":[\"UPDATE acc SET m = m + 42 WHERE id = 6\"]}],\"end\":\"commit\",\"name\":\"m1\"}],\"resources\":["
    ++ (resources ++ codes "],\"schedule\":[\"auto 400\"]}")
