-- What some words ask for.
use Rattle.std.specs.Prelude.{◌≡◌, [], ◌∷◌, Some, None, codes}
use Rattle.lab_words.specs.declared.orders.Order.TheVariants as order
use Rattle.lab_words.specs.Grammar.{folder_of, order_of}

-- words of the grammar
pub record RightWords : Type 0 where
  pub replay : order_of (codes "replay" ∷ []) ≡ Some order.Replay
  pub stored : order_of (codes "replay" ∷ codes "--store" ∷ codes "d" ∷ []) ≡ Some order.Replay
  pub frames : order_of (codes "frames" ∷ []) ≡ Some order.Frames
  pub usual_run : order_of (codes "run" ∷ []) ≡ Some (order.Run 2)
  pub leading_zeros : order_of
      (codes "make" ∷ codes "--size" ∷ codes "032" ∷ codes "--number=007" ∷ [])
      ≡ Some (order.Make 7 32)
  pub greatest : order_of
      (codes "make" ∷ codes "--number=18446744073709551615" ∷ codes "--size=256" ∷ [])
      ≡ Some (order.Make 18446744073709551615 256)
  pub workers : order_of
      (codes "stress" ∷ codes "--workers" ∷ codes "16" ∷ codes "--size=8" ∷ codes "--number=0" ∷ [])
      ≡ Some (order.Stress 0 8 16)
  pub audit : order_of (codes "audit" ∷ []) ≡ Some order.Audit
  pub show : order_of (codes "show" ∷ codes "--store=a=b" ∷ []) ≡ Some order.Show

-- words that are outside of it
pub record WrongWords : Type 0 where
  pub no_word : order_of [] ≡ None
  pub other_word : order_of (codes "Make" ∷ []) ≡ None
  pub help : order_of (codes "--help" ∷ []) ≡ None
  pub no_option : order_of (codes "frames" ∷ codes "--" ∷ []) ≡ None
  pub no_value : order_of (codes "make" ∷ codes "--size=1" ∷ codes "--number" ∷ []) ≡ None
  pub missing : order_of (codes "make" ∷ codes "--size=1" ∷ []) ≡ None
  pub twice : order_of
      (codes "make" ∷ codes "--size=1" ∷ codes "--number=7" ∷ codes "--number=7" ∷ []) ≡ None
  pub not_its_own : order_of (codes "frames" ∷ codes "--store=d" ∷ []) ≡ None
  pub second_equals : order_of (codes "make" ∷ codes "--size==1" ∷ codes "--number=7" ∷ []) ≡ None
  pub too_small : order_of (codes "make" ∷ codes "--size=0" ∷ codes "--number=7" ∷ []) ≡ None
  pub too_large : order_of
      (codes "make" ∷ codes "--size=1" ∷ codes "--number=18446744073709551616" ∷ []) ≡ None
  pub too_long : order_of
      (codes "make" ∷ codes "--size=1" ∷ codes "--number=000000000000000000007" ∷ []) ≡ None
  pub no_folder : order_of (codes "show" ∷ codes "--store" ∷ codes "-d" ∷ []) ≡ None

-- folders
pub record Folders : Type 0 where
  pub given : folder_of (codes "run" ∷ codes "--store" ∷ codes "d" ∷ []) ≡ Some (codes "d")
  pub first_equals : folder_of (codes "show" ∷ codes "--store=a=b" ∷ []) ≡ Some (codes "a=b")
  pub none : folder_of (codes "replay" ∷ []) ≡ None
  pub outside : folder_of (codes "audit" ∷ codes "--store=d" ∷ []) ≡ None
