-- What may be told as kept after a cut: worked rows.
use Rattle.std.proofs.Common.{◌≡◌, inr, ⊎_elim, ℕ, true, false, None, List, [], ◌∷◌, refl, arith}
use Rattle.log_model.specs.declared.lines.Break.TheVariants.{Cut}
use Rattle.log_model.specs.Log.{RunLog, kept_after}
use Rattle.log_model.specs.Course.{ToldSecond, fresh}
use Rattle.recorder_with_cards.specs.KeptAfter.{AreFoundAfter}

-- a span of one second, which a cut has ended
abbrev span_at : ℕ → List ToldSecond
span_at u = record {
  second = record { number = u; speed = 0; picks = [] };
  given = true;
  lit = true;
  starts = true;
  cut = true;
  course = fresh false (record { driver = None; codriver = None });
} ∷ []

-- a cut in second 65 after which minute 77 is told
abbrev told_77 : RunLog
told_77 = record { breaks = Cut 65 77 true 0 ∷ []; refused = []; finds = [] }

-- and nothing is
abbrev told_none : RunLog
told_none = record { breaks = Cut 65 0 true 0 ∷ []; refused = []; finds = [] }

-- where power never came back it is nothing
pub none_may_be_told : (unit : List ℕ → Type 0) → AreFoundAfter unit told_none (span_at 65 ∷ [])
unfolding kept_after
none_may_be_told unit = (inr (refl, tt), tt)

-- and no minute
pub a_minute_that_none_found_is_refused : (unit : List ℕ → Type 0) → AreFoundAfter unit told_77 (span_at 65 ∷ []) → ⊥
unfolding kept_after
a_minute_that_none_found_is_refused unit h = ⊎_elim (λ found. let few = found.1 in omega (arith, few)) (λ none. let same : 77 ≡ 0 = none.0 in omega (arith, same)) h.0
