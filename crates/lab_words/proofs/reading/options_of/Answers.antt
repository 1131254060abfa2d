use Rattle.std.proofs.Common.{◌≡◌, ◌+◌, ◌<◌, ◌∷◌, length, drop, ap, sym, ◌∙◌}
use Rattle.std.proofs.lemmas.List.{drop_more}
use Rattle.lab_words.specs.Grammar.{options_of}
use Rattle.lab_words.specs.Seen.{seen, seen_reading}
use Rattle.lab_words.proofs.Spelling.{all_settled, rest, still_waiting, word_refused, word_taken}
use Rattle.lab_words.proofs.reading.options_of.Goals as goal

pub loop-word-preserved : goal.loop-word-preserved
loop-word-preserved c =
    let s = seen_reading c.loop-word.reading in
    let words = c.args.words.now in
    let i = c.loop-word.word-index in
    let inside : i < length words = c.loop-word-test.true in
    let first : drop i words ≡ c.word-item.result ∷ drop (i + 1) words = drop_more words i c.word-item.result inside ∙ ap (λ x. x ∷ drop (i + 1) words) (sym c.word-item.is) in
    word_taken s c.as_str.result.now (drop (i + 1) words) _
    (ap (λ x. rest s (x ∷ drop (i + 1) words)) c.as_str.ensures ∙ sym (ap (λ ws. rest s ws) first) ∙ c.loop-word.invariant)
    (seen_reading c.in_ok-reading.reading) (sym c.in_ok-reading.ensures)

pub returns-in_err-reading : goal.returns-in_err-reading
unfolding options_of
returns-in_err-reading c =
    let s = seen_reading c.loop-word.reading in
    let words = c.args.words.now in
    let i = c.loop-word.word-index in
    let inside : i < length words = c.loop-word-test.true in
    let first : drop i words ≡ c.word-item.result ∷ drop (i + 1) words = drop_more words i c.word-item.result inside ∙ ap (λ x. x ∷ drop (i + 1) words) (sym c.word-item.is) in
    rw c.from_residual.ensures
    (word_refused s c.as_str.result.now (drop (i + 1) words) _
    (ap (λ x. rest s (x ∷ drop (i + 1) words)) c.as_str.ensures ∙ sym (ap (λ ws. rest s ws) first) ∙ c.loop-word.invariant)
    (sym c.in_err-reading.ensures))

pub returns-in-Some : goal.returns-in-Some
unfolding options_of
returns-in-Some c =
    still_waiting (seen c.loop-word.reading.options) c.loop-word.reading.waiting c.args.words.now c.loop-word.word-index _ c.loop-word-test.false c.loop-word.invariant _ c.in-Some.is

pub returns-in-None : goal.returns-in-None
unfolding options_of
returns-in-None c =
    all_settled (seen c.loop-word.reading.options) c.loop-word.reading.waiting c.args.words.now c.loop-word.word-index _ c.loop-word-test.false c.loop-word.invariant c.in-None.is
