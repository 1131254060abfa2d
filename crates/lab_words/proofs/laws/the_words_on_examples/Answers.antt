use Rattle.std.proofs.Common.{refl}
use Rattle.lab_words.specs.Grammar.{asked, asked_by, number_of, number_up_to, options_of, order_by, with_number, with_option, with_size, with_store, with_workers, word_of}
use Rattle.lab_words.proofs.laws.the_words_on_examples.Goals as goal

pub returns-clause-right : goal.returns-clause-right
unfolding asked asked_by number_of number_up_to options_of order_by with_number with_option with_size with_store with_workers word_of
returns-clause-right c = record {
  replay = refl;
  stored = refl;
  frames = refl;
  usual_run = refl;
  leading_zeros = refl;
  greatest = refl;
  workers = refl;
  audit = refl;
  show = refl;
}

pub returns-clause-wrong : goal.returns-clause-wrong
unfolding asked asked_by number_of number_up_to options_of order_by with_number with_option with_size with_store with_workers word_of
returns-clause-wrong c = record {
  no_word = refl;
  other_word = refl;
  help = refl;
  no_option = refl;
  no_value = refl;
  missing = refl;
  twice = refl;
  not_its_own = refl;
  second_equals = refl;
  too_small = refl;
  too_large = refl;
  too_long = refl;
  no_folder = refl;
}

pub returns-clause-folders : goal.returns-clause-folders
unfolding asked asked_by number_of number_up_to options_of order_by with_number with_option with_size with_store with_workers word_of
returns-clause-folders c = record { given = refl; first_equals = refl; none = refl; outside = refl }
