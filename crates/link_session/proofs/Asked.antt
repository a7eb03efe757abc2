-- A service that answers before it reads on.
use Rattle.std.proofs.Common.{◌≡◌, ℕ, List, [], ◌∷◌, ◌++◌, Option, Some, None, IfSome, append-nil, append_assoc, refl, sym, ◌∙◌, ap, subst}
use Rattle.std.specs.Io.KnownBytes.{Consumes, Keeps}
use Rattle.std.proofs.KnownBytes.{Consumes-kept}
use Rattle.tach_media.proofs.Runs.{both_told}
use Rattle.unit_memory.proofs.Told.{told_all, one_told}
use Rattle.link_session.specs.Asked.{Asking, given, TellsMore, AreAnsweredBefore, AnswersInTime}

given_on : (asks : List Asking) (ask : Asking) → given (asks ++ ask ∷ []) ≡ given asks ++ ask.came
given_on [] ask = append-nil ask.came
given_on (first ∷ asks) ask = ap (λ (l : List ℕ). first.came ++ l) (given_on asks ask) ∙ sym (append_assoc first.came (given asks) ask.came)

told_none : (o : Option (List Asking)) → TellsMore o o []
told_none None = tt
told_none (Some asks) = sym (append-nil asks)

told_on : (a b c : Option (List Asking)) (asks more : List Asking) → TellsMore a b asks → TellsMore b c more → TellsMore a c (asks ++ more)
told_on None b c asks more p q = tt
told_on (Some x) None c asks more p q = absurd p
told_on (Some x) (Some y) None asks more p q = absurd q
told_on (Some x) (Some y) (Some z) asks more p q = q ∙ ap (λ (l : List Asking). l ++ more) p ∙ append_assoc x asks more

module _ (Answered : List ℕ → Option (List ℕ) → Option (List ℕ) → Type 0) where
  -- one more read, before which all that came was answered
  before_on : (came : List ℕ) (held : Option (List ℕ)) (asks : List Asking) (ask : Asking) → AreAnsweredBefore Answered came held asks
      → Answered (came ++ given asks) held ask.held → AreAnsweredBefore Answered came held (asks ++ ask ∷ [])
  before_on came held [] ask before sent = (subst (λ (l : List ℕ). Answered l held ask.held) (append-nil came) sent, tt)
  before_on came held (first ∷ asks) ask before sent =
      (before.0, before_on (came ++ first.came) held asks ask before.1 (subst (λ (l : List ℕ). Answered l held ask.held) (sym (append_assoc came first.came (given asks))) sent))

-- The reads so far gave these bytes, and before each of them what had come was answered.
pub record IsTimely (Answered : (image came : List ℕ) → (held sunk : Option (List ℕ)) → Type 0) (came : List ℕ) (image held : Option (List ℕ)) (before now : Option (List Asking)) : Type 0 where
  pub asks : List Asking
  pub told : TellsMore before now asks
  pub gave : given asks ≡ came
  pub in_time : IfSome image (λ x. AreAnsweredBefore (Answered x) [] held asks)

module _ (Answered : List ℕ → List ℕ → Option (List ℕ) → Option (List ℕ) → Type 0) where
  pub timely_none : (image held : Option (List ℕ)) (asked : Option (List Asking)) → IsTimely Answered [] image held asked asked
  timely_none image held asked = record { asks = []; told = told_none asked; gave = refl; in_time = told_all image _ (λ x is. tt) }

  -- the next read
  pub timely_on : {came : List ℕ} {image h : Option (List ℕ)} {before now : Option (List Asking)} (next : Option (List Asking)) (k : Option (List ℕ)) (bytes : List ℕ) → IfSome image (λ x. Answered x came h k)
      → IsTimely Answered came image h before now → TellsMore now next (record { held = k; came = bytes } ∷ []) → IsTimely Answered (came ++ bytes) image h before next
  timely_on {came} {image} {h} {before} {now} next k bytes answered t told =
      let ask : Asking = record { held = k; came = bytes } in
      record {
        asks = t.asks ++ ask ∷ [];
        told = told_on before now next t.asks (ask ∷ []) t.told told;
        gave = given_on t.asks ask ∙ ap (λ (l : List ℕ). l ++ bytes) t.gave;
        in_time = both_told image _ answered t.in_time (λ x is f g. before_on (Answered x) [] h t.asks ask g (subst (λ (l : List ℕ). Answered x l h k) (sym t.gave) f));
      }

  -- as the service tells it
  pub timely_told : {came : List ℕ} {image held : Option (List ℕ)} {before now : Option (List Asking)} (a c : Option (List ℕ)) → IsTimely Answered came image held before now → Consumes a c came
      → IfSome image (λ x. AnswersInTime (Answered x) a c held before now)
  timely_told {came} {image} {held} {before} {now} a c t consumed =
      one_told image _ t.in_time (λ x g. record { asks = t.asks; told = t.told; consumed = subst (λ (l : List ℕ). Consumes a c l) (sym t.gave) consumed; in_time = g })

-- a failed read gave nothing
pub consumed_end : (a b c : Option (List ℕ)) (came : List ℕ) → Consumes a b came → Keeps b c → Consumes a c (came ++ [])
consumed_end a b c came consumed keeps = subst (λ (l : List ℕ). Consumes a c l) (sym (append-nil came)) (Consumes-kept a b c came consumed keeps)
