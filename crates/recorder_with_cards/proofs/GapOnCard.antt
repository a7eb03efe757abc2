-- The interruption of power on a card, type by type.
use Rattle.std.proofs.Common.{◌≡◌, ◌∙◌, ℕ, Bool, true, false, cond, not, ◌||◌, ◌&&◌, Option, Some, None, IfSome, is_some, nat_eq, List, [], refl, ap, sym, subst, arith}
use Rattle.std.specs.Prelude.{◌==◌, nat_lt}
use Rattle.std.proofs.lemmas.Bool.{eqb-true}
use Rattle.std.proofs.lemmas.Bool.Decides.{nat_tests}
use Rattle.trace_model.specs.declared.Card.{Card}
use Rattle.tach_media.specs.Medium.{State}
use Rattle.tacho_types.specs.declared.texts.Registration.{Registration}
use Rattle.tach_media.specs.card_layout.declared.files.Application.{Application}
use Rattle.device_calls.specs.card_files.declared.card_event.CardEvent.{CardEvent}
use Rattle.device_calls.specs.event_model.declared.entries.Span.{Span}
use Rattle.device_calls.specs.event_model.declared.kinds.TheConstants.{INSERTION_WHILE_DRIVING, SESSION_NOT_CLOSED, POWER_INTERRUPTION}
use Rattle.device_calls.specs.event_model.Events.{Event, Seen, number_of}
use Rattle.log_model.specs.Log.{RunLog}
use Rattle.device_calls.specs.note_model.Done.{has_failed_in}
use Rattle.run_acts.specs.run_crew.declared.cards.Accepted.{Accepted}
use Rattle.run_insertion.specs.CardEvents.{events_in, all_noted, MayBeNoted, of_type, ShowsThese, ShowsMore}
use Rattle.run_insertion.proofs.MayBe.{being-may, all-may}
use Rattle.run_acts.specs.CardNotes.{NotesOn, gap_on}
use Rattle.run_acts.specs.OnCards.{events_by, gaps_on, enters, falls, may_note, is_clear, is_sure_in, IsBrought, ComesTo}
use Rattle.run_acts.proofs.CardBrings.{brought-nothing}
use Rattle.run_acts.proofs.CardShown.{interrupting}

turned : (n m : ℕ) → nat_eq m n ≡ false → nat_eq n m ≡ false
turned n m other = by (nat_eq n m) refl
  where
    by : (b : Bool) → nat_eq n m ≡ b → b ≡ false
    by false is = refl
    by true is = let same : n ≡ m = eqb-true n m is in absurd (let wrong : nat_eq m n ≡ true = grind (arith, nat_tests) in let clash : true ≡ false = sym wrong ∙ other in cc)

rest-none : (q5 q6 : Bool) → cond {A = List CardEvent} q5 [] (cond q6 [] []) ≡ []
rest-none true q6 = refl
rest-none false true = refl
rest-none false false = refl

or-third : (a b c : Bool) → c ≡ true → (a || (b || c)) ≡ true
or-third true b c is = refl
or-third false true c is = refl
or-third false false c is = is

clear-parts : (f t : Bool) → (not f && not t) ≡ true → (f ≡ false) × (t ≡ false)
clear-parts true t is = absurd (let wrong : false ≡ true = is in cc)
clear-parts false true is = absurd (let wrong : false ≡ true = is in cc)
clear-parts false false is = (refl, refl)

off-then : (b f : Bool) → (b ≡ true → f ≡ true) → f ≡ false → b ≡ false
off-then true f then is = absurd (let clash : true ≡ false = sym (then refl) ∙ is in cc)
off-then false f then is = refl

-- an interruption is of its type alone
gap-type : (kind : ℕ) (gap : Option Span) (own : Registration) (b : Bool) → (kind == POWER_INTERRUPTION) ≡ b → of_type kind (gap_on gap own) ≡ cond b (gap_on gap own) []
gap-type kind None own true is = refl
gap-type kind None own false is = refl
gap-type kind (Some span) own true is =
    ap (λ (q : Bool). cond q (gap_on (Some span) own) []) (let same : kind ≡ POWER_INTERRUPTION = eqb-true kind POWER_INTERRUPTION is in ap (λ (k : ℕ). nat_eq POWER_INTERRUPTION k) same)
gap-type kind (Some span) own false is = ap (λ (q : Bool). cond q (gap_on (Some span) own) []) (turned POWER_INTERRUPTION kind is)

-- nothing more of a type, whatever was cut short
still-these : (cut : Bool) (old new : List (List ℕ)) → ShowsThese cut old [] new → new ≡ old
still-these true old new h = h
still-these false old new h = h

module _ (app : Application) (c : Card) (own : Registration) (log : RunLog) (y : Seen) (gaps : List Event) (gap : Option Span) (failed : Bool) (X Y : State) (starts : y.told.starts ≡ true) (has : Bool) (met : has ≡ true → enters c y ≡ true)
    (are : gaps_on c own gaps ≡ cond has (gap_on gap own) []) (fails : failed ≡ true → has_failed_in log (number_of y) ≡ true) where
  may : (kind : ℕ) → (kind == POWER_INTERRUPTION) ≡ true → may_note c kind y ≡ true
  may kind is = or-third (kind == SESSION_NOT_CLOSED) (kind == INSERTION_WHILE_DRIVING && nat_lt 0 y.told.second.speed) (kind == POWER_INTERRUPTION && y.told.starts) (λ i. is i && starts i)

  -- where it is sure no call failed
  clear : (kind : ℕ) → (kind == POWER_INTERRUPTION) ≡ true → enters c y ≡ true → is_sure_in c kind log y ≡ true → is_clear c log y ≡ true
  clear kind is entered sure = by (is_clear c log y) refl
    where
      by : (b : Bool) → is_clear c log y ≡ b → b ≡ true
      by true well = refl
      by false wrong_ = absurd (let wrong : false ≡ true = sym (λ i. not (entered i && may kind is i) || wrong_ i) ∙ sure in cc)

  none-of : (kind : ℕ) → (has ≡ true → falls c y ≡ true) → is_sure_in c kind log y ≡ true → events_by kind (gaps_on c own gaps) [] [] ≡ []
  none-of kind lost sure = ap (λ (es : List CardEvent). events_by kind es [] []) are ∙ by (kind == POWER_INTERRUPTION) refl has refl
    where
      by : (b : Bool) → (kind == POWER_INTERRUPTION) ≡ b → (h : Bool) → has ≡ h → cond b (cond h (gap_on gap own) []) (cond (kind == INSERTION_WHILE_DRIVING) [] (cond (kind == SESSION_NOT_CLOSED) [] [])) ≡ []
      by false is h there = rest-none (kind == INSERTION_WHILE_DRIVING) (kind == SESSION_NOT_CLOSED)
      by true is false there = refl
      by true is true there =
          let well = clear-parts (has_failed_in log (number_of y)) (falls c y) (clear kind is (met there) sure) in
          absurd (let clash : true ≡ false = sym (lost there) ∙ well.1 in cc)

  these-may : (cut : Bool) (old new : List (List ℕ)) (es : List CardEvent) → ShowsThese cut old es new → MayBeNoted old es new
  these-may true old new es h = being-may old es new h
  these-may false old new es h = subst (λ (t : List (List ℕ)). MayBeNoted old es t) (sym h) (all-may old es)

  -- what comes of it, type by type
  comes-as : (images : List ℕ → Type 0) (cut : Bool) (x z : List ℕ) → has ≡ true → (is_clear c log y ≡ true → cut ≡ false) → ShowsMore app (gap_on gap own) cut x z → (kind : ℕ) →
      IsBrought images kind (is_sure_in c kind log y) (interrupting (number_of y) (gaps_on c own gaps)) (events_in app kind x) (events_in app kind z)
  comes-as images cut x z had whole shows kind = by (is_sure_in c kind log y) refl
    where
      -- its events of this type are those that a card shows
      type-is : of_type kind (gap_on gap own) ≡ events_by kind (gaps_on c own gaps) [] []
      type-is = from (kind == POWER_INTERRUPTION) refl
        where
          from : (b : Bool) → (kind == POWER_INTERRUPTION) ≡ b → of_type kind (gap_on gap own) ≡ cond b (gaps_on c own gaps) (cond (kind == INSERTION_WHILE_DRIVING) [] (cond (kind == SESSION_NOT_CLOSED) [] []))
          from true is = gap-type kind gap own true is ∙ sym (are ∙ ap (λ (h : Bool). cond h (gap_on gap own) []) had)
          from false is = gap-type kind gap own false is ∙ sym (rest-none (kind == INSERTION_WHILE_DRIVING) (kind == SESSION_NOT_CLOSED))

      -- of another type it has none, whatever was cut short; of this one it was noted where that is sure
      sure-noted : is_sure_in c kind log y ≡ true → events_in app kind z ≡ all_noted (events_in app kind x) (of_type kind (gap_on gap own))
      sure-noted sure = from (kind == POWER_INTERRUPTION) refl
        where
          from : (b : Bool) → (kind == POWER_INTERRUPTION) ≡ b → events_in app kind z ≡ all_noted (events_in app kind x) (of_type kind (gap_on gap own))
          from false is =
              still-these cut (events_in app kind x) (events_in app kind z) (subst (λ (es : List CardEvent). ShowsThese cut (events_in app kind x) es (events_in app kind z)) (gap-type kind gap own false is) (shows kind))
              ∙ sym (ap (all_noted (events_in app kind x)) (gap-type kind gap own false is))
          from true is = subst (λ (b : Bool). ShowsThese b (events_in app kind x) (of_type kind (gap_on gap own)) (events_in app kind z)) (whole (clear kind is (met had) sure)) (shows kind)

      by : (sure : Bool) → is_sure_in c kind log y ≡ sure → IsBrought images kind sure (interrupting (number_of y) (gaps_on c own gaps)) (events_in app kind x) (events_in app kind z)
      by true sure = sure-noted sure ∙ ap (all_noted (events_in app kind x)) type-is
      by false unsure = (
        [],
        omega arith,
        tt,
        subst (λ (es : List CardEvent). MayBeNoted (events_in app kind x) es (events_in app kind z)) type-is (these-may cut (events_in app kind x) (events_in app kind z) (of_type kind (gap_on gap own)) (shows kind)),
      )

  pub gap-noted-on : (images : List ℕ → Type 0) (before after : Option Accepted) → (is_some before ≡ true → has ≡ true) → (before ≡ None → has ≡ true → falls c y ≡ true) → (is_some before ≡ true → is_some after ≡ false → falls c y ≡ true) →
      IfSome before (λ a. a.session.application ≡ app) → NotesOn failed before after (gap_on gap own) X Y → ComesTo images app (λ kind. is_sure_in c kind log y) (interrupting (number_of y) (gaps_on c own gaps)) X Y
  gap-noted-on images None after had lost fell sized notes z there = (
    z,
    notes z there,
    λ kind. brought-nothing images kind (is_sure_in c kind log y) (interrupting (number_of y) (gaps_on c own gaps)) (λ sure. none-of kind (lost refl) sure) (events_in app kind z) (events_in app kind z) refl,
  )
  gap-noted-on images (Some a) after had lost fell sized notes z there =
      let was = notes z there in
      (was.0, was.1, λ kind. comes-as images (failed || not (is_some after)) was.0 z (had refl) whole (subst (λ (q : Application). ShowsMore q (gap_on gap own) (failed || not (is_some after)) was.0 z) sized was.2) kind)
    where
      off : (b f : Bool) → b ≡ false → f ≡ true → (b || not f) ≡ false
      off true f is on = absurd (let wrong : true ≡ false = is in cc)
      off false true is on = refl
      off false false is on = absurd (let wrong : false ≡ true = on in cc)

      stays : (b : Bool) → is_some after ≡ b → falls c y ≡ false → b ≡ true
      stays true is well = refl
      stays false is well = absurd (let clash : true ≡ false = sym (fell refl is) ∙ well in cc)

      whole : is_clear c log y ≡ true → (failed || not (is_some after)) ≡ false
      whole clear_ =
          let well = clear-parts (has_failed_in log (number_of y)) (falls c y) clear_ in
          off failed (is_some after) (off-then failed (has_failed_in log (number_of y)) fails well.0) (stays (is_some after) refl well.1)
