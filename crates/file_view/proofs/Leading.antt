-- The messages at the front of bytes, and one message more.
use Rattle.std.proofs.Common.{◌≡◌, ◌∙◌, ℕ, zero, suc, ◌+◌, false, Option, Some, None, List, [], ◌∷◌, ◌++◌, length, map, drop, refl, ap, sym, arith, All, append_assoc, append-nil, length-append}
use Rattle.std.specs.Prelude.{is_some}
use Rattle.std.proofs.lemmas.List.Elements.{All-append, All-nil}
use Rattle.card_layout.specs.Fields.{joined}
use Rattle.tacho_types.specs.declared.texts.Registration.{Registration}
use Rattle.message_model.specs.Messages.{Message, AnOverview, ADay, AnEventList, ASpeedList, ATechnical, message_bytes, IsMessage}
use Rattle.link_model.specs.declared.request.Request.TheVariants.{Overview as AskOverview}
use Rattle.unit_messages.specs.Reading.{BeginsWith, request_of}
use Rattle.file_view.specs.declared.front.FrontRead.{FrontRead}
use Rattle.file_view.specs.Fronts.{registration_in, registration_bytes, Leads, first_registration}

-- the registration of messages and of one more
registration_more : (ms : List Message) (m : Message) → registration_in (ms ++ m ∷ []) ≡ first_registration (registration_in ms) (registration_in (m ∷ []))
registration_more [] m = refl
registration_more (AnOverview x ∷ ms) m = refl
registration_more (ADay x ∷ ms) m = registration_more ms m
registration_more (AnEventList x ∷ ms) m = registration_more ms m
registration_more (ASpeedList x ∷ ms) m = registration_more ms m
registration_more (ATechnical x ∷ ms) m = registration_more ms m

bytes_more : (ms : List Message) (m : Message) → joined (map message_bytes (ms ++ m ∷ [])) ≡ joined (map message_bytes ms) ++ message_bytes m
bytes_more [] m = append-nil (message_bytes m)
bytes_more (x ∷ ms) m = ap (λ (l : List ℕ). message_bytes x ++ l) (bytes_more ms m) ∙ sym (append_assoc (message_bytes x) (joined (map message_bytes ms)) (message_bytes m))

-- what is left behind a front
behind : (front rest bytes : List ℕ) (n : ℕ) → bytes ≡ front ++ rest → n ≡ length front → drop n bytes ≡ rest
behind front rest bytes n is count = ap (λ (l : List ℕ). drop n l) is ∙ ap (λ (k : ℕ). drop k (front ++ rest)) count ∙ by front
  where
    by : (l : List ℕ) → drop (length l) (l ++ rest) ≡ rest
    by [] = refl
    by (x ∷ l) = by l

-- nothing was read
pub leads_none : (bytes : List ℕ) (f : FrontRead) → f.end ≡ 0 → f.registration ≡ None → Leads bytes [] f
leads_none bytes f end none = record {
  each = All-nil IsMessage;
  spelled = ap (λ (n : ℕ). drop n bytes) (sym end);
  end_is = end;
  registration_is = ap registration_bytes none;
}

-- one message more
pub leads_more : (bytes : List ℕ) (before : List Message) (f g : FrontRead) (m : Message) → Leads bytes before f → BeginsWith m (drop f.end bytes) → g.end ≡ f.end + length (message_bytes m)
    → registration_bytes g.registration ≡ first_registration (registration_bytes f.registration) (registration_in (m ∷ [])) → Leads bytes (before ++ m ∷ []) g
leads_more bytes before f g m leads begins end told =
    let whole : bytes ≡ joined (map message_bytes (before ++ m ∷ [])) ++ begins.rest =
    leads.spelled ∙ ap (λ (l : List ℕ). joined (map message_bytes before) ++ l) begins.spelled
    ∙ sym (append_assoc (joined (map message_bytes before)) (message_bytes m) begins.rest)
    ∙ ap (λ (l : List ℕ). l ++ begins.rest) (sym (bytes_more before m)) in
    let count : g.end ≡ length (joined (map message_bytes (before ++ m ∷ []))) =
    omega (arith, leads.end_is, end, ap (λ (l : List ℕ). length l) (bytes_more before m), length-append (joined (map message_bytes before)) (message_bytes m)) in record {
      each = All-append IsMessage before (m ∷ []) leads.each one;
      spelled = whole ∙ ap (λ (l : List ℕ). joined (map message_bytes (before ++ m ∷ [])) ++ l) (sym (behind (joined (map message_bytes (before ++ m ∷ []))) begins.rest bytes g.end whole count));
      end_is = count;
      registration_is = told ∙ ap (λ (o : Option (List ℕ)). first_registration o (registration_in (m ∷ []))) leads.registration_is ∙ sym (registration_more before m);
    }
  where
    one : All IsMessage (m ∷ [])
    one zero d low = begins.is_message
    one (suc k) d low = absurd (omega (arith, low))

-- what was not known comes
pub new_comes : (o : Option Registration) (x later : Option (List ℕ)) → is_some o ≡ false → x ≡ later → x ≡ first_registration (registration_bytes o) later
new_comes None x later none is = is
new_comes (Some r) x later none is = absurd (cc)

-- a message that is no overview tells no registration
pub no_overview : (m : Message) → (AskOverview ≡ request_of m → ⊥) → registration_in (m ∷ []) ≡ None
no_overview (AnOverview o) other = absurd (other refl)
no_overview (ADay d) other = refl
no_overview (AnEventList x) other = refl
no_overview (ASpeedList x) other = refl
no_overview (ATechnical x) other = refl
