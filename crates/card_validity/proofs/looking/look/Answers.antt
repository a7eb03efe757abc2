use Rattle.std.proofs.Common.{◌≡◌, ◌∙◌, ℕ, List, Option, IfSome, refl, ap, subst, arith}
use Rattle.tach_media.specs.Medium.{bytes_at}
use Rattle.card_validity.specs.Judged.{TellsSizes, IsJudged}
use Rattle.card_validity.proofs.Faults.{failed_ok, failed_valid, failed_in_time, passed, passed_ok}
use Rattle.card_validity.proofs.Slices.{told_three}
use Rattle.card_validity.proofs.Places.{identification_file}
use Rattle.card_validity.proofs.Telling.{look_is}
use Rattle.card_validity.proofs.looking.look.Goals as goal

pub returns-in_err-judged-clause-look : goal.returns-in_err-judged-clause-look
returns-in_err-judged-clause-look g c = passed_ok c.from_residual.result _ _ c.from_residual.ensures.1

pub returns-in_err-judged-clause-bad : goal.returns-in_err-judged-clause-bad
returns-in_err-judged-clause-bad g c = passed c.from_residual.result _ _ c.from_residual.ensures.1 c.in_err-judged.ensures.bad

pub returns-in_err-judged-clause-in_time : goal.returns-in_err-judged-clause-in_time
returns-in_err-judged-clause-in_time g c = passed c.from_residual.result _ _ c.from_residual.ensures.1 c.in_err-judged.ensures.in_time

pub returns-in_err-read_at-clause-look : goal.returns-in_err-read_at-clause-look
returns-in_err-read_at-clause-look g c = failed_ok c.from_residual-in_err-read_at.result _ c.from_residual-in_err-read_at.ensures.1

pub returns-in_err-read_at-clause-bad : goal.returns-in_err-read_at-clause-bad
returns-in_err-read_at-clause-bad g c = failed_valid c.from_residual-in_err-read_at.result _ c.from_residual-in_err-read_at.ensures.1

pub returns-in_err-read_at-clause-in_time : goal.returns-in_err-read_at-clause-in_time
returns-in_err-read_at-clause-in_time g c = failed_in_time c.from_residual-in_err-read_at.result _ c.from_residual-in_err-read_at.ensures.1

pub returns-clause-look : goal.returns-clause-look
returns-clause-look g c =
    let app = c.args.app.now in
    let bytes = c.read_at.new.out in
    let read : IfSome (g.M.Medium.state c.args.port.now).image (λ x. bytes ≡ bytes_at x c.file_of.result.base 143) =
    subst (λ (q : Option (List ℕ)). IfSome q (λ x. bytes ≡ bytes_at x c.file_of.result.base 143)) (c.in_ok-judged.ensures.reads.same refl) c.in_ok-read_at.ensures.bytes in
    told_three (g.M.Medium.state c.args.port.now).image (λ x. IsJudged app x c.in_ok-judged.judged) (TellsSizes app) (λ x. bytes ≡ bytes_at x c.file_of.result.base 143) _ (λ x judged told is.
    look_is app x bytes c.in_ok-judged.judged _ judged told (is ∙ ap (λ (p : ℕ). bytes_at x p 143) c.file_of.ensures.base)
    c.number_of.ensures c.read_name.ensures c.read_name-2.ensures c.read_time.ensures.value refl (c.newest_minute.ensures app x judged.known) refl) c.in_ok-judged.ensures.judged c.requires.told read

pub read_at-requires : goal.read_at-requires
read_at-requires g c = omega (arith, c.file_of.ensures.inside, c.file_of.ensures.len, identification_file c.args.app.now, c.requires.fits, c.in_ok-judged.ensures.reads.leaves.size)
