use Rattle.std.proofs.Common.{sym, ap, subst, ◌∙◌, ◌<◌, ◌++◌, ◌≡◌, arith}
use Rattle.std.proofs.lemmas.List.Elements.{All-from_get_or}
use Rattle.frame_codec.specs.Feeding.{TakesPiece, IsShort, IsLasting, BadAfter}
use Rattle.lab_calls.specs.FrameLines.{bad_frame_line}
use Rattle.lab_calls.proofs.Fed.{takes_frames, meets_bad}
use Rattle.lab_calls.proofs.listings.Listing.take.Goals as goal

pub returns-in_ok-put-in-Ok : goal.returns-in_ok-put-in-Ok
returns-in_ok-put-in-Ok c =
    let bytes = All-from_get_or (λ b. b < 256) c.args.piece.now 0 (λ i lt. omega (arith, c.type_inv.piece i)) in
    let e = c.in_ok-put-in-Ok.ensures in
    let t = takes_frames c.args.self.now c.put.new.self c.args.piece.now c.in-Ok.frames bytes c.requires.ready c.if-self.false (e.rest.1 ∙ c.if-self.false)
    (subst (λ f. TakesPiece c.args.self.now.feed c.args.piece.now c.in-Ok.frames f × IsShort f.why) (sym e.rest.0) c.in-Ok.ensures) e.lines in
    record { awaits = t.awaits; ready = t.ready; fed = t.fed }

pub returns-in_ok-end-in-Err-Bad : goal.returns-in_ok-end-in-Err-Bad
returns-in_ok-end-in-Err-Bad c =
    let bytes = All-from_get_or (λ b. b < 256) c.args.piece.now 0 (λ i lt. omega (arith, c.type_inv.piece i)) in
    let b = c.in-Err-Bad in
    let p = c.in_ok-put-in-Err-Bad.ensures in
    let e = c.in_ok-end-in-Err-Bad.ensures in
    let t = meets_bad c.args.self.now c.end.new.self c.args.piece.now b.at b.why b.before bytes c.requires.ready c.if-self.false e.ended
    (subst (λ f. (b.at ≡ f.at) × (b.why ≡ f.why) × IsLasting b.why × BadAfter c.args.self.now.feed c.args.piece.now b.before f c.args.self.now.feed.why) (sym (e.feed ∙ p.rest.0)) (rw c.in-Err-Bad.field-0-is at c.in-Err-Bad.ensures))
    (e.lines ∙ ap (λ x. x ++ bad_frame_line b.at b.why) p.lines) in
    record { awaits = t.awaits; ready = t.ready; fed = t.fed }
