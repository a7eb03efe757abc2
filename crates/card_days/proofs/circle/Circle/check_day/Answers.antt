use Rattle.std.proofs.Common.{◌≡◌, ℕ, ◌+◌, ◌-◌, ◌/◌, List, Option, None, IfSome, Bool, take, drop, refl, sym, ◌∙◌, ap, subst}
use Rattle.tach_media.specs.Medium.{Reads}
use Rattle.tach_media.proofs.Runs.{both_told, reads_then}
use Rattle.card_model.specs.Image.{turned, string_of, spot}
use Rattle.card_model.specs.Walk.{words_of}
use Rattle.card_model.specs.Checks.{first_failing, word_checks, file_place}
use Rattle.card_days.specs.declared.fault.DaysFault.{DaysFault}
use Rattle.card_days.specs.Heads.{head_bytes}
use Rattle.card_days.specs.Loading.{IfBadDays, FailsAt, IsRecord, ArePairs}
use Rattle.card_days.proofs.LoadLemmas.{field_bad, word_bad, record_read}
use Rattle.card_days.proofs.Told.{from_told, failed_is}
use Rattle.card_days.proofs.circle.Circle.check_day.Goals as goal

pub returns-in-Some-clause-bad : goal.returns-in-Some-clause-bad
returns-in-Some-clause-bad g c =
    let r = c.args.self.now in
    let o = c.args.oldest in
    let k = c.args.so_far in
    let h = c.in_ok-head.head in
    let image = (g.M.Medium.state c.args.medium.now).image in
    subst (λ (f : DaysFault). IfBadDays f (λ p. IfSome image (λ x. FailsAt r.size o k c.args.before c.args.date (turned (spot r.size o k) (string_of r x)) p))) (sym c.bad_at.ensures.fault)
    (from_told image _ _ c.in_ok-head.ensures.head (λ x was head.
    let same : head_bytes h ≡ take 12 (turned (spot r.size o k) (string_of r x)) = head ∙ ap (λ (p : ℕ). take 12 (turned p (string_of r x))) c.spot-place.ensures.spot in
    record { offset = c.in-Some.offset; fails = field_bad r.size k c.args.before c.args.date (turned (spot r.size o k) (string_of r x)) h same c.in-Some.offset (sym c.first_bad_field.ensures.first ∙ c.in-Some.is); is = refl }))

pub returns-in_err-offset-clause-reads : goal.returns-in_err-offset-clause-reads
returns-in_err-offset-clause-reads g c =
    subst (λ (b : Bool). Reads (g.M.Medium.state c.args.medium.now) (g.M.Medium.state c.first_bad_word.new.medium) b) (sym (failed_is c.from_residual-in_err-offset.result c.from_residual-in_err-offset.ensures.1))
    (reads_then c.in_ok-head.ensures.reads c.in_err-offset.ensures.reads)

pub returns-in-Some-2-clause-bad : goal.returns-in-Some-2-clause-bad
returns-in-Some-2-clause-bad g c =
    let r = c.args.self.now in
    let o = c.args.oldest in
    let k = c.args.so_far in
    let h = c.in_ok-head.head in
    let place = c.spot-place.result in
    let found = c.in_ok-offset.field-0 in
    let image = (g.M.Medium.state c.args.medium.now).image in
    let words = subst (λ (m : Option (List ℕ)). IfSome m (λ x. found ≡ first_failing (word_checks 12 0 1 (words_of ((h.len - 12) / 2) (drop 12 (turned place (string_of r x))))))) (c.in_ok-head.ensures.reads.same refl) c.in_ok-offset.ensures.first in
    subst (λ (f : DaysFault). IfBadDays f (λ p. IfSome image (λ x. FailsAt r.size o k c.args.before c.args.date (turned (spot r.size o k) (string_of r x)) p))) (sym c.bad_at-in-Some-2.ensures.fault)
    (both_told image (λ x. FailsAt r.size o k c.args.before c.args.date (turned (spot r.size o k) (string_of r x)) (file_place r.size o (k + c.in-Some-2.offset))) c.in_ok-head.ensures.head words (λ x was head bad.
    let same : head_bytes h ≡ take 12 (turned (spot r.size o k) (string_of r x)) = head ∙ ap (λ (p : ℕ). take 12 (turned p (string_of r x))) c.spot-place.ensures.spot in
    record {
      offset = c.in-Some-2.offset;
      fails = word_bad r.size k c.args.before c.args.date (turned (spot r.size o k) (string_of r x)) h same (sym c.first_bad_field.ensures.first ∙ c.in_default.is) c.in-Some-2.offset
          (sym c.in-Some-2.is ∙ bad ∙ ap (λ (p : ℕ). first_failing (word_checks 12 0 1 (words_of ((h.len - 12) / 2) (drop 12 (turned p (string_of r x)))))) c.spot-place.ensures.spot);
      is = refl;
    }))

pub returns-clause-record : goal.returns-clause-record
returns-clause-record g c =
    let r = c.args.self.now in
    let o = c.args.oldest in
    let k = c.args.so_far in
    let h = c.in_ok-head.head in
    let place = c.spot-place.result in
    let found = c.in_ok-offset.field-0 in
    let image = (g.M.Medium.state c.args.medium.now).image in
    let words = subst (λ (m : Option (List ℕ)). IfSome m (λ x. found ≡ first_failing (word_checks 12 0 1 (words_of ((h.len - 12) / 2) (drop 12 (turned place (string_of r x))))))) (c.in_ok-head.ensures.reads.same refl) c.in_ok-offset.ensures.first in
    let pairs = subst (λ (m : Option (List ℕ)). IfSome m (λ x. found ≡ None → ArePairs ((h.len - 12) / 2) (drop 12 (turned place (string_of r x))))) (c.in_ok-head.ensures.reads.same refl) c.in_ok-offset.ensures.spelled in
    let both = both_told image (λ x. (found ≡ first_failing (word_checks 12 0 1 (words_of ((h.len - 12) / 2) (drop 12 (turned place (string_of r x)))))) × (found ≡ None → ArePairs ((h.len - 12) / 2) (drop 12 (turned place (string_of r x))))) words pairs (λ x was a b. (a, b)) in
    both_told image (λ x. IsRecord r.size k c.args.before c.args.date (turned (spot r.size o k) (string_of r x)) h) c.in_ok-head.ensures.head both (λ x was head two.
    let same : head_bytes h ≡ take 12 (turned (spot r.size o k) (string_of r x)) = head ∙ ap (λ (p : ℕ). take 12 (turned p (string_of r x))) c.spot-place.ensures.spot in
    record_read r.size k c.args.before c.args.date (turned (spot r.size o k) (string_of r x)) h same (sym c.first_bad_field.ensures.first ∙ c.in_default.is) c.in_ok-head.ensures.short
    (sym c.in_default-2.is ∙ two.0 ∙ ap (λ (p : ℕ). first_failing (word_checks 12 0 1 (words_of ((h.len - 12) / 2) (drop 12 (turned p (string_of r x)))))) c.spot-place.ensures.spot)
    (subst (λ (p : ℕ). ArePairs ((h.len - 12) / 2) (drop 12 (turned p (string_of r x)))) c.spot-place.ensures.spot (two.1 c.in_default-2.is)))
