use Rattle.std.proofs.Common.{◌≡◌, ◌+◌, ◌<◌, ℕ, length, arith, ap, ◌∙◌, subst}
use Rattle.tach_media.specs.Medium.{bytes_at}
use Rattle.std.proofs.lemmas.Result.{IfOk-weaker}
use Rattle.tach_media.proofs.Runs.{both_told}
use Rattle.std.specs.Prelude.{slice_index}
use Rattle.card_model.specs.Bytes.{number}
use Rattle.card_model.specs.Days.{Day}
use Rattle.card_model.specs.Image.{StringShape, IsStringShape, IsAt}
use Rattle.card_days.proofs.Heads.{word_read}
use Rattle.card_days.proofs.circle.Circle.word_at.Goals as goal

pub returns-clause-word : goal.returns-clause-word
returns-clause-word g c =
    let r = c.args.self.now in
    let base : c.self.inside.base ≡ r.base = ap (λ (s : StringShape). s.base) c.self.view_is in
    IfOk-weaker c.read_two.result _ _ (λ n value. both_told (g.M.Medium.state c.args.medium.now).image (λ x. (d : Day) → IsAt r x c.args.place d → c.args.index < length d.words → n ≡ slice_index d.words c.args.index) value value
    (λ x was here again d day_at lt.
    here ∙ ap (λ (b : ℕ). number (bytes_at x (b + 4 + c.spot.result) 2)) base
    ∙ word_read r (subst (λ (s : StringShape). IsStringShape s) c.self.view_is c.self.invariant) x (omega (arith, c.requires.fits, (g.met.M.Medium.coherent c.args.medium.now).sized x was)) c.args.place d c.requires.pointer day_at c.args.index c.spot.result lt c.spot.ensures.place c.spot.ensures.pointer)) c.read_two.ensures.value
