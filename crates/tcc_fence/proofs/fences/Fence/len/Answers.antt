use Rattle.std.proofs.Common.{rules, ◌≡◌, ◌∙◌, ap, sym, length}
use Rattle.std.proofs.lemmas.List.{length-map}
use Rattle.tcc_fence.specs.Meanings.{Fences, entry_of}
use Rattle.tcc_fence.proofs.fences.Fence.len.Goals as goal

pub returns : goal.returns
returns c =
    let count : c.len.result ≡ length c.self.inside.entries.entries = search rules in
    count ∙ sym (length-map c.self.inside.entries.entries entry_of) ∙ ap (λ (l : Fences). length l) c.self.view_is
