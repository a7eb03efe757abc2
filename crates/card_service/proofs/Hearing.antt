-- What a packet leaves of a card, and of the sink.
use Rattle.std.proofs.Common.{◌≡◌, ◌∙◌, ℕ, ◌+◌, ◌≤◌, false, List, [], ◌∷◌, Option, Result, Ok, Err, refl, sym, ap, subst, inl, inr, arith}
use Rattle.std.specs.Prelude.{OnOk, OnErr, IfErr, IsErrAnd}
use Rattle.std.specs.Io.KnownBytes.{Appends}
use Rattle.std.proofs.KnownBytes.{Appends-nil}
use Rattle.tach_media.specs.Streams.{AppendsFront}
use Rattle.tach_media.specs.Medium.{State, Rose}
use Rattle.card_layout.specs.declared.command.CardState.{CardState}
use Rattle.card_layout.specs.Outcomes.{outcome_of, IsAnswered, after_reset}
use Rattle.tach_media.specs.Chip.{Does}
use Rattle.card_service.specs.declared.serving.CardFault.{CardFault}
use Rattle.card_service.specs.declared.serving.CardFault.TheVariants.{ReadFault, WriteFault, Failed, Cut, TooLong}
use Rattle.card_service.specs.declared.serving.Asked.{Asked}
use Rattle.card_service.specs.declared.serving.Asked.TheVariants.{Reset, AnswerToReset, Command}
use Rattle.card_service.specs.Packets.{packet}
use Rattle.card_service.specs.Answering.{Card, answer_to_reset, memory_failed, card_told}
use Rattle.card_service.specs.Serving.{IsHeardAs, IsCaused}
use Rattle.card_service.proofs.Parts.{one_packet}
use Rattle.card_service.proofs.Cards.{FewPut, does_image, does_begin}

abbrev card_of : Option (List ℕ) → ℕ → CardState → Card
card_of i n s = record { image = i; clock = n; state = s }

-- by what a packet asks for
pub heard_so : (a b : Asked) (r : Result (Unit {0}) CardFault) (old : Card) (p : List ℕ) (new : Card) (held sunk : Option (List ℕ)) → a ≡ b → IsHeardAs b r old p new held sunk → IsHeardAs a r old p new held sunk
heard_so a b r old p new held sunk is heard = subst (λ (k : Asked). IsHeardAs k r old p new held sunk) (sym is) heard

-- a card that was reset
pub heard_reset : (r : Result (Unit {0}) CardFault) (p : List ℕ) (i j : Option (List ℕ)) (n m : ℕ) (s t : CardState) (held : Option (List ℕ)) → j ≡ i → m ≡ n → t ≡ after_reset s → IfErr r (λ f. f ≡ Failed)
    → IsHeardAs Reset r (record { image = i; clock = n; state = s }) p (record { image = j; clock = m; state = t }) held held
heard_reset (Ok done) p i j n m s t held same count reset err =
    let turned = ap (λ (o : Option (List ℕ)). card_of o m t) same ∙ ap (λ (k : ℕ). card_of i k t) count ∙ ap (λ (c : CardState). card_of i n c) reset in
    ([], (turned, refl), Appends-nil held)
heard_reset (Err f) p i j n m s t held same count reset err =
    subst (λ (e : CardFault). IsHeardAs Reset (Err e) (record { image = i; clock = n; state = s }) p (record { image = j; clock = m; state = t }) held held) (sym err)
    ([], (reset, count, refl), Appends-nil held)

-- the answer to reset was asked for
pub heard_told : (r : Result (Unit {0}) CardFault) (p : List ℕ) (c : Card) (held sunk : Option (List ℕ)) (R : Type 0) → OnOk r (Appends held sunk (packet answer_to_reset))
    → IfErr r (λ f. (f ≡ WriteFault) × AppendsFront held sunk (packet answer_to_reset) × R) → IsHeardAs AnswerToReset r c p c held sunk
heard_told (Ok done) p c held sunk R ok err = (answer_to_reset ∷ [], (refl, refl), subst (λ (l : List ℕ). Appends held sunk l) (sym (one_packet answer_to_reset)) ok)
heard_told (Err f) p c held sunk R ok err =
    subst (λ (e : CardFault). IsHeardAs AnswerToReset (Err e) c p c held sunk) (sym err.0)
    (answer_to_reset ∷ [], inl (refl, refl), subst (λ (l : List ℕ). AppendsFront held sunk l) (sym (one_packet answer_to_reset)) err.1)

-- a command that the card has done
pub heard_done : (r : Result (Unit {0}) CardFault) (command answer : List ℕ) (old new : State) (s t : CardState) (held sunk : Option (List ℕ)) (R : Type 0) → IsAnswered command old.image s t answer
    → FewPut (outcome_of s command).effect → Does (outcome_of s command).effect old new false → OnOk r (Appends held sunk (packet answer)) → IfErr r (λ f. (f ≡ WriteFault) × AppendsFront held sunk (packet answer) × R)
    → IsHeardAs Command r (card_told old s) command (card_told new t) held sunk
heard_done (Ok done) command answer old new s t held sunk R is few does ok err = (
  answer ∷ [],
  (answer, record { answered = is; image = does_image (outcome_of s command).effect old new does; begins = does_begin (outcome_of s command).effect old new few does }, refl),
  subst (λ (l : List ℕ). Appends held sunk l) (sym (one_packet answer)) ok,
)
heard_done (Err f) command answer old new s t held sunk R is few does ok err =
    subst (λ (e : CardFault). IsHeardAs Command (Err e) (card_told old s) command (card_told new t) held sunk) (sym err.0) (
      answer ∷ [],
      inl (answer, record { answered = is; image = does_image (outcome_of s command).effect old new does; begins = does_begin (outcome_of s command).effect old new few does }, refl),
      subst (λ (l : List ℕ). AppendsFront held sunk l) (sym (one_packet answer)) err.1,
    )

-- one at which it failed, and that was told
pub heard_failed : (command : List ℕ) (old new : Card) (held sunk : Option (List ℕ)) → new.state ≡ old.state → new.clock ≤ old.clock + 1 → Appends held sunk (packet memory_failed) → IsHeardAs Command (Err Failed) old command new held sunk
heard_failed command old new held sunk kept count ok = (memory_failed ∷ [], (kept, count, refl), subst (λ (l : List ℕ). Appends held sunk l) (sym (one_packet memory_failed)) ok)

-- or could not be told
pub heard_untold : (r : Result (Unit {0}) CardFault) (fault : CardFault) (command : List ℕ) (old new : Card) (held sunk : Option (List ℕ)) (R : Type 0) → IsErrAnd r (λ v. v ≡ fault) → new.state ≡ old.state → new.clock ≤ old.clock + 1
    → (fault ≡ WriteFault) × AppendsFront held sunk (packet memory_failed) × R → IsHeardAs Command r old command new held sunk
heard_untold (Ok done) fault command old new held sunk R is kept count err = absurd is
heard_untold (Err f) fault command old new held sunk R is kept count err =
    subst (λ (e : CardFault). IsHeardAs Command (Err e) old command new held sunk) (sym (is ∙ err.0))
    (memory_failed ∷ [], inr (kept, count, refl), subst (λ (l : List ℕ). AppendsFront held sunk l) (sym (one_packet memory_failed)) err.1)

-- WHY: the sink failed, or the card
pub caused_sent : (r : Result (Unit {0}) CardFault) (A R Q : Type 0) → IfErr r (λ f. (f ≡ WriteFault) × A × R) → IfErr r (λ f. IsCaused f ⊥ R Q)
caused_sent (Ok done) A R Q err = tt
caused_sent (Err f) A R Q err = subst (λ (e : CardFault). IsCaused e ⊥ R Q) (sym err.0) err.2

pub caused_reset : (r : Result (Unit {0}) CardFault) (R Q : Type 0) → IfErr r (λ f. f ≡ Failed) → OnErr r Q → IfErr r (λ f. IsCaused f ⊥ R Q)
caused_reset (Ok done) R Q err rose = tt
caused_reset (Err f) R Q err rose = subst (λ (e : CardFault). IsCaused e ⊥ R Q) (sym err) rose

pub caused_untold : (r : Result (Unit {0}) CardFault) (fault : CardFault) (A R Q : Type 0) → IsErrAnd r (λ v. v ≡ fault) → (fault ≡ WriteFault) × A × R → IfErr r (λ f. IsCaused f ⊥ R Q)
caused_untold (Ok done) fault A R Q is err = absurd is
caused_untold (Err f) fault A R Q is err = subst (λ (e : CardFault). IsCaused e ⊥ R Q) (sym (is ∙ err.0)) err.2

-- of calls behind others
caused_on : {B S : Type 0} (fault : CardFault) (a b n p q m : ℕ) → (B → S) → a ≤ b → p ≤ q → IsCaused fault B (Rose b n) (Rose q m) → IsCaused fault S (Rose a n) (Rose p m)
caused_on ReadFault a b n p q m read le less is = read is
caused_on WriteFault a b n p q m read le less is = omega (arith, le, is)
caused_on Failed a b n p q m read le less is = omega (arith, less, is)
caused_on Cut a b n p q m read le less is = tt
caused_on TooLong a b n p q m read le less is = tt

pub caused_passed : (r : Result (Unit {0}) CardFault) (e : CardFault) (B S : Type 0) (a b n p q m : ℕ) → IsErrAnd r (λ v. v ≡ e) → (B → S) → a ≤ b → p ≤ q → IsCaused e B (Rose b n) (Rose q m)
    → IfErr r (λ fault. IsCaused fault S (Rose a n) (Rose p m))
caused_passed (Ok done) e B S a b n p q m is read le less caused = absurd is
caused_passed (Err f) e B S a b n p q m is read le less caused = subst (λ (v : CardFault). IsCaused v S (Rose a n) (Rose p m)) (sym is) (caused_on {B = B} {S = S} e a b n p q m read le less caused)

-- the source ended inside a packet, or the card failed at the first reset
pub caused_ended : (r : Result (Unit {0}) CardFault) (A B R Q : Type 0) → IfErr r (λ f. (f ≡ Cut) × A) → IfErr r (λ f. IsCaused f B R Q)
caused_ended (Ok done) A B R Q err = tt
caused_ended (Err f) A B R Q err = subst (λ (e : CardFault). IsCaused e B R Q) (sym err.0) tt

pub caused_failed : (r : Result (Unit {0}) CardFault) (fault : CardFault) (B R Q : Type 0) → IsErrAnd r (λ v. v ≡ fault) → fault ≡ Failed → Q → IfErr r (λ f. IsCaused f B R Q)
caused_failed (Ok done) fault B R Q is failed rose = absurd is
caused_failed (Err f) fault B R Q is failed rose = subst (λ (e : CardFault). IsCaused e B R Q) (sym (is ∙ failed)) rose
