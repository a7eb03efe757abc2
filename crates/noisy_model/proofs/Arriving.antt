-- What a packet is to either end, by its number.
use Rattle.std.proofs.Common.{◌≡◌, ◌∙◌, ℕ, ◌+◌, Bool, true, false, List, Option, Some, None, refl, sym, ap, inl, inr, arith}
use Rattle.std.specs.Prelude.{◌⊎◌, ◌==◌, ◌&&◌, nat_lt, if◌then◌else◌, is_some, option_map}
use Rattle.std.proofs.lemmas.Bool.Decides.{nat_tests}
use Rattle.noisy_model.specs.declared.packet.Packet.{Packet}
use Rattle.noisy_model.specs.Ends.{UnitEnd, LoaderEnd, New, Again, Passed, HearsBy, Hears, packet, arrival_by, no_number, request_of, brought}

same_number : (m n : ℕ) → (m == n) ≡ true → m ≡ n
same_number m n is = grind (arith, nat_tests)

-- a new request was answered
pub record IsNew {U : Type 0} (Answers : U → List ℕ → Option (List ℕ) → U → Type 0) (old : UnitEnd U) (p : Packet) (new : UnitEnd U) (answer : Option Packet) : Type 0 where
  pub request : List ℕ
  pub frame : p.frame ≡ Some request
  pub number : p.number ≡ old.last + 1
  pub answers : Answers old.side request new.kept new.side
  pub last : new.last ≡ old.last + 1
  pub answer_is : answer ≡ Some (packet new.last new.kept)

-- the last one came again
pub record IsAgain {U : Type 0} (old : UnitEnd U) (new : UnitEnd U) (answer : Option Packet) : Type 0 where
  pub same : new ≡ old
  pub answer_is : answer ≡ Some (packet old.last old.kept)

pub record IsPassed {U : Type 0} (old : UnitEnd U) (new : UnitEnd U) (answer : Option Packet) : Type 0 where
  pub same : new ≡ old
  pub answer_is : answer ≡ None

abbrev pub Cases : {U : Type 0} → (U → List ℕ → Option (List ℕ) → U → Type 0) → UnitEnd U → Packet → UnitEnd U → Option Packet → Type 0
Cases Answers old p new answer = IsNew Answers old p new answer ⊎ (IsAgain old new answer ⊎ IsPassed old new answer)

pub cases : {U : Type 0} (Answers : U → List ℕ → Option (List ℕ) → U → Type 0) (old : UnitEnd U) (p : Packet) (new : UnitEnd U) (answer : Option Packet) → Hears Answers old p new answer → Cases Answers old p new answer
cases Answers old p new answer hears = by p.frame refl hears
  where
    again : (b : Bool) → HearsBy Answers old (if b then Again else Passed) new answer → Cases Answers old p new answer
    again true h = inr (inl (record { same = h.0; answer_is = h.1 }))
    again false h = inr (inr (record { same = h.0; answer_is = h.1 }))

    by_number : (frame : List ℕ) → p.frame ≡ Some frame → (b : Bool) → (p.number == old.last + 1) ≡ b → HearsBy Answers old (if b then New frame else if p.number == old.last && nat_lt 0 old.last then Again else Passed) new answer → Cases Answers old p new answer
    by_number frame is true e h = inl (record { request = frame; frame = is; number = same_number p.number (old.last + 1) e; answers = h.0; last = h.1; answer_is = h.2 })
    by_number frame is false e h = again (p.number == old.last && nat_lt 0 old.last) h

    by : (o : Option (List ℕ)) → p.frame ≡ o → HearsBy Answers old (arrival_by old.last p.number o) new answer → Cases Answers old p new answer
    by None is h = inr (inr (record { same = h.0; answer_is = h.1 }))
    by (Some frame) is h = by_number frame is (p.number == old.last + 1) refl h

-- a packet that is sent has the number and the request
pub record IsRequest {L : Type 0} (asks : L → Option (List ℕ)) (e : LoaderEnd L) (p : Packet) : Type 0 where
  pub number : p.number ≡ e.number
  pub frame : p.frame ≡ asks e.side

pub sent_is : {L : Type 0} (asks : L → Option (List ℕ)) (e : LoaderEnd L) (p : Packet) → request_of asks e ≡ Some p → IsRequest asks e p
sent_is asks e p is = by (nat_lt e.number no_number) (asks e.side) refl is
  where
    by : (b : Bool) (o : Option (List ℕ)) → asks e.side ≡ o → (if b then option_map (λ frame. packet e.number (Some frame)) o else None) ≡ Some p → IsRequest asks e p
    by false o asked is = absurd (cc)
    by true None asked is = absurd (cc)
    by true (Some frame) asked is =
        let same : packet e.number (Some frame) ≡ p = cc in
        record { number = sym (ap (λ (q : Packet). q.number) same); frame = sym (ap (λ (q : Packet). q.frame) same) ∙ sym asked }

-- what it is brought has its number
pub brought_is : {L : Type 0} (asks : L → Option (List ℕ)) (e : LoaderEnd L) (p : Packet) (frame : List ℕ) → brought asks e p ≡ Some frame → (p.number ≡ e.number) × (p.frame ≡ Some frame)
brought_is asks e p frame is = by (is_some (request_of asks e)) (p.number == e.number) refl is
  where
    by : (b c : Bool) → (p.number == e.number) ≡ c → (if b && c then p.frame else None) ≡ Some frame → (p.number ≡ e.number) × (p.frame ≡ Some frame)
    by false c e is = absurd (cc)
    by true false e is = absurd (cc)
    by true true test is = (same_number p.number e.number test, is)
