-- The draws of a number, and what seven of them say.
use Rattle.std.specs.Prelude.{ℕ, zero, suc, ◌+◌, ◌*◌, ◌%◌, ◌==◌}
use Rattle.scenario_maker.specs.declared.plans.Plan.{Plan}

-- the draw that follows another
abbrev pub after : ℕ → ℕ
after d = d * 48271 % 2147483647

-- the k-th draw of a number; what stands before the first is no draw
unfoldable pub draw : ℕ → ℕ → ℕ
draw number zero = number % 2147483646 + 1
draw number (suc k) = after (draw number k)

-- what the seven draws behind the k-th say
unfoldable pub plan : ℕ → ℕ → Plan
plan number k =
    record {
      first = draw number (k + 1) % 4 + 1;
      second = draw number (k + 2) % 4 + 1;
      payer = draw number (k + 3) % 8 + 1;
      payee = draw number (k + 4) % 8 + 1;
      amount = draw number (k + 5) % 50 + 1;
      reserves = draw number (k + 6) % 4 == 0;
      rolls_back = draw number (k + 7) % 8 == 0;
    }
