-- The current use of a card by its stays is the one that its noted insertions have left.
use Rattle.std.proofs.Common.{◌≡◌, ◌∙◌, ℕ, true, cond, Option, Some, None, is_some, List, [], ◌∷◌, map, refl, sym, ap, subst}
use Rattle.std.specs.Prelude.{option_map}
use Rattle.trace_model.specs.declared.Card.{Card}
use Rattle.tach_media.specs.Medium.{State}
use Rattle.tacho_types.specs.declared.texts.Registration.{Registration}
use Rattle.card_files.specs.declared.current_use.CurrentUse.{CurrentUse}
use Rattle.hand_model.specs.card_image.Fields.{current_use}
use Rattle.hand_model.specs.card_image.Own.{own_sizes, IsOwnValid}
use Rattle.log_model.specs.Log.{RunLog}
use Rattle.unit_notes.specs.note_model.Noted.{InsertionNote, Note}
use Rattle.device_calls.specs.safety_model.Recording.{card_image}
use Rattle.device_calls.specs.safety_model.Safe.{Devices, card_of}
use Rattle.run_crew.specs.declared.cards.Accepted.{Accepted}
use Rattle.run_crew.specs.declared.cabin.Cabin.{Cabin}
use Rattle.run_crew.specs.Cards.{session_of}
use Rattle.run_minutes.specs.run_promise.Found.{found_of}
use Rattle.run_minutes.specs.run_promise.Origin.{Origin}
use Rattle.run_note_record.specs.Uses.{left_open, left_by, use_behind, insertions_on, vehicle_in, use_in, use_now}
use Rattle.run_acts.specs.Closings.{Spell, spell_of, spells_of}
use Rattle.run_acts.specs.Recording.{IsOrigin}
use Rattle.run_acts.specs.RunCards.{sizes_in}
use Rattle.run_acts.specs.Truths.{Truths}
use Rattle.run_acts.specs.Stays.{Shut, Stay, Shown, open_from, after_stay, after_stays, start_shown, acceptances_told, spells, sits_in, as_noted, ShowsStays, Whose, covers, AreKnown, AreStays, AllStay, judged_told}

-- what a spell leaves, and some
abbrev spell_use : Registration → Spell → CurrentUse
spell_use own s = record { session = record { 0 = cond (is_some s.withdrawn) 0 s.second }; registration = own }

abbrev spells_use : Registration → CurrentUse → List Spell → CurrentUse
spells_use own held [] = held
spells_use own held (s ∷ ss) = spells_use own (spell_use own s) ss

stay-spelled : (u : ℕ) (o : Option Shut) → open_from u o ≡ cond (is_some (option_map {T = Shut} (λ (x : Shut). x.second) o)) 0 u
stay-spelled u None = refl
stay-spelled u (Some x) = refl

note-spelled : (u : ℕ) (o : Option ℕ) → left_open u o ≡ cond (is_some o) 0 u
note-spelled u None = refl
note-spelled u (Some w) = refl

by-stays : (vehicle : Registration) (size : ℕ) (ss : List Stay) (p : Shown) → (after_stays vehicle size ss p).held ≡ spells_use vehicle p.held (spells ss)
by-stays vehicle size [] p = refl
by-stays vehicle size (s ∷ ss) p =
    by-stays vehicle size ss (after_stay vehicle size s p)
    ∙ ap (λ (n : ℕ). spells_use vehicle (record { session = record { 0 = n }; registration = vehicle }) (spells ss)) (stay-spelled s.found.second s.closed)

by-notes : (own : Registration) (held : CurrentUse) (is : List InsertionNote) → use_behind own held is ≡ spells_use own held (map spell_of is)
by-notes own held [] = refl
by-notes own held (i ∷ is) =
    by-notes own (left_by own i) is ∙ ap (λ (n : ℕ). spells_use own (record { session = record { 0 = n }; registration = own }) (map spell_of is)) (note-spelled i.accepted.second i.withdrawn)

-- of one card
pub shown-use : (vehicle : Registration) (image : List ℕ) (ss : List Stay) (is : List InsertionNote) (card : State) → spells ss ≡ map spell_of is → ShowsStays vehicle image ss card → (x : List ℕ) → card.may_leave x →
    current_use (own_sizes image) x ≡ use_behind vehicle (use_in image) is
shown-use vehicle image ss is card same shows x left =
    (shows x left).1
    ∙ by-stays vehicle (own_sizes image).activity ss (start_shown image)
    ∙ ap (spells_use vehicle (use_in image)) same
    ∙ sym (by-notes vehicle (use_in image) is)

-- EACH IMAGE that a card may leave now tells this use, where its stays are known, and it has no session
pub use-now : (o : Origin) → IsOrigin o → (t : Truths) (u : ℕ) (log : RunLog) (notes : List Note) (vehicle : Registration) (cabin : Cabin) (d : Devices) → AllStay o t u log notes vehicle cabin d → (c : Card) (whose : Whose) → covers whose c ≡ true → AreKnown whose o log d → IsOwnValid (card_image o.recording c) → session_of cabin.cards c ≡ None →
    (x : List ℕ) → (card_of d c).may_leave x → current_use (sizes_in o c) x ≡ use_now o c notes
use-now o origin t u log notes vehicle cabin d all c whose in_ known valid bare x left =
    let are : AreStays whose o t u notes (acceptances_told log) (judged_told log) vehicle cabin d = all whose known in
    let image : (found_of o.found c).image ≡ card_image o.recording c = origin.image c in
    let h = are.each c in_ (subst IsOwnValid (sym image) valid) in
    let same : spells (are.stays c) ≡ spells_of c notes = sym (ap (λ (q : Option Accepted). as_noted u q (sits_in cabin.slots.seats c) (spells (are.stays c))) bare) ∙ h.spell in
    let own : vehicle ≡ vehicle_in o = λ i. record { 0 = are.says i } in
    sym (ap (λ (y : List ℕ). current_use (own_sizes y) x) image)
    ∙ shown-use vehicle (found_of o.found c).image (are.stays c) (insertions_on c notes) (card_of d c) same h.shows x left
    ∙ (λ i. use_behind (own i) (use_in (image i)) (insertions_on c notes))
