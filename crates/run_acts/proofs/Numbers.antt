-- The numbers by which events are noted: of valid cards, which alone are named in events.
use Rattle.std.proofs.Common.{◌≡◌, ◌∙◌, inl, inr, ℕ, Bool, true, false, cond, nat_eq, Option, Some, None, IfSome, List, [], ◌∷◌, length, drop, map, refl, ap, sym, arith, ◌+◌, ◌≤◌}
use Rattle.std.proofs.lemmas.List.{length-take-le, length-drop, length-append}
use Rattle.std.specs.List.{AllByRecursion}
use Rattle.trace_model.specs.declared.Card.{Card}
use Rattle.trace_model.specs.declared.Card.TheVariants.{A, B}
use Rattle.card_files.specs.card_layout.declared.files.Fid.{Fid}
use Rattle.card_files.specs.card_layout.declared.files.Application.{Application}
use Rattle.card_files.specs.card_layout.Files.{files_of, image_size_of, place_of as layout_at}
use Rattle.card_files.specs.card_layout.Application.{application_of}
use Rattle.hand_model.specs.card_image.Fields.{file, card_number}
use Rattle.tach_media.specs.Medium.{bytes_at}
use Rattle.hand_model.specs.card_image.Own.{own_sizes, own_number, own_bad_file, IsOwnValid}
use Rattle.unit_notes.specs.event_model.declared.kinds.TheConstants.{OVER_SPEEDING}
use Rattle.unit_model.specs.declared.layout.TheConstants.{IMAGE_SIZE, REGISTRATION}
use Rattle.unit_notes.specs.event_model.Events.{Event, Crew}
use Rattle.unit_notes.specs.event_model.Places.{day_place, place_of, similar_after}
use Rattle.unit_notes.specs.note_model.Tables.{number_or_none, HasRest, IsEntry, similar_field, similar_at, held_of, held_in, table_in, IsNotedAt}
use Rattle.unit_notes.specs.note_model.Unsure.{IsNotedSo, AreNotedBut}
use Rattle.unit_notes.specs.declared.unit_event.UnitEvent.{UnitEvent}
use Rattle.device_calls.specs.safety_model.Recording.{card_image}
use Rattle.device_calls.specs.safety_model.Safe.{Devices}
use Rattle.run_events.specs.Shown.{by_kind, none_sure, all_sure, ShowsEvents, AreNumbers}
use Rattle.run_minutes.specs.run_promise.Origin.{Origin}
use Rattle.run_note_record.specs.Evented.{number_in}
use Rattle.run_note_record.specs.Uses.{vehicle_of}
use Rattle.run_acts.specs.NotedEvents.{AreTold, NotesSo, NotesEvents}
use Rattle.run_acts.specs.Named.{ValidHere, NamesValid, spare, by_fault, image_or, named_as}

-- the numbers of valid cards fill their field
abbrev pub AreLong : Origin → Type 0
AreLong o = (c : Card) → IsOwnValid (card_image o.recording c) → length (number_in o c) ≡ 18

-- ---- a valid card's number has all its bytes

part-long : (x : List ℕ) (p n : ℕ) → p + n ≤ length x → length (bytes_at x p n) ≡ n
part-long x p n fits = length-take-le n (drop p x) (omega (arith, length-drop p x, fits))

kind-inside : (app : Application) → layout_at app (file 0x0501) + 1 ≤ image_size_of app
unfolding files_of
kind-inside app = omega arith

identification-inside : (app : Application) → layout_at app (file 0x0520) + 17 ≤ image_size_of app
unfolding files_of
identification-inside app = omega arith

-- the registration that an image of a unit tells has all its bytes
pub vehicle-long : (x : List ℕ) → length x ≡ IMAGE_SIZE → length (vehicle_of x).0 ≡ 15
vehicle-long x size = part-long x REGISTRATION.place REGISTRATION.size (omega (arith, size))

-- where the image has all that its sizes tell
pub own-long : (x : List ℕ) → image_size_of (own_sizes x) ≤ length x → length (own_number x) ≡ 18
unfolding own_number card_number
own-long x fits =
    let app : Application = own_sizes x in
    let front = part-long x (layout_at app (file 0x0501)) 1 (omega (arith, kind-inside app, fits)) in
    let back = part-long x (layout_at app (file 0x0520)) 17 (omega (arith, identification-inside app, fits)) in
    length-append (bytes_at x (layout_at app (file 0x0501)) 1) (bytes_at x (layout_at app (file 0x0520)) 17) ∙ omega (arith, front, back)

-- ---- numbers that agree on the cards that are named

abbrev AgreeOn : (f g : Card → List ℕ) → Crew → Type 0
AgreeOn f g crew = (number_or_none f crew.driver ≡ number_or_none g crew.driver) × (number_or_none f crew.codriver ≡ number_or_none g crew.codriver)

abbrev AgreeOnAll : (f g : Card → List ℕ) → List Event → Type 0
AgreeOnAll f g es = AllByRecursion (λ e. AgreeOn f g e.at_begin × AgreeOn f g e.at_end) es

module _ (f g : Card → List ℕ) where
  rest-as : (over : Bool) (e : Event) (bytes : List ℕ) → AgreeOn f g e.at_begin → AgreeOn f g e.at_end → HasRest f over e bytes → HasRest g over e bytes
  rest-as true e bytes begin end h = record { most = h.most; average = h.average; driver_begin = h.driver_begin ∙ begin.0 }
  rest-as false e bytes begin end h = record { driver_begin = h.driver_begin ∙ begin.0; codriver_begin = h.codriver_begin ∙ begin.1; driver_end = h.driver_end ∙ end.0; codriver_end = h.codriver_end ∙ end.1 }

  entry-as : (e : Event) (similar : ℕ) (bytes : List ℕ) → AgreeOn f g e.at_begin → AgreeOn f g e.at_end → IsEntry f e similar bytes → IsEntry g e similar bytes
  entry-as e similar bytes begin end h = record { front = h.front; rest = rest-as (nat_eq e.kind OVER_SPEEDING) e bytes begin end h.rest; counts = h.counts }

  place-as : (old : List (List ℕ)) (e : Event) (place day : Option ℕ) (new : List (List ℕ)) → AgreeOn f g e.at_begin → AgreeOn f g e.at_end → IsNotedAt f old e place day new → IsNotedAt g old e place day new
  place-as old e (Some i) day new begin end h = (h.0, h.1, entry-as e (similar_after (similar_at e.kind old (similar_field e.kind) day)) h.0 begin end h.2)
  place-as old e None (Some i) new begin end h = h
  place-as old e None None new begin end h = h

  one-kind : (b : Bool) (e : Event) (rest : List Event) → AgreeOn f g e.at_begin × AgreeOn f g e.at_end → AgreeOnAll f g rest → AgreeOnAll f g (cond b (e ∷ rest) rest)
  one-kind true e rest one all_ = (one, all_)
  one-kind false e rest one all_ = all_

  of-kind : (es : List Event) (kind : ℕ) → AgreeOnAll f g es → AgreeOnAll f g (by_kind es kind)
  of-kind [] kind agree = tt
  of-kind (e ∷ es) kind agree = one-kind (nat_eq e.kind kind) e (by_kind es kind) agree.0 (of-kind es kind agree.1)

  one-as : (b : Bool) (old : List (List ℕ)) (e : Event) (new : List (List ℕ)) → AgreeOn f g e.at_begin → AgreeOn f g e.at_end → IsNotedSo f b old e new → IsNotedSo g b old e new
  one-as true old e new begin end h = place-as old e (place_of e.kind (map (held_in e.kind) old) (held_of e)) (day_place e.kind (map (held_in e.kind) old) (held_of e)) new begin end h
  one-as false old e new begin end (inl h) = inl (place-as old e (place_of e.kind (map (held_in e.kind) old) (held_of e)) (day_place e.kind (map (held_in e.kind) old) (held_of e)) new begin end h)
  one-as false old e new begin end (inr other) = inr other

  but-as : (sure : Event → Bool) (old : List (List ℕ)) (es : List Event) (new : List (List ℕ)) → AgreeOnAll f g es → AreNotedBut f sure old es new → AreNotedBut g sure old es new
  but-as sure old [] new agree h = h
  but-as sure old (e ∷ es) new agree h = (h.0, one-as (sure e) old e h.0 agree.0.0 agree.0.1 h.1, but-as sure h.0 es new agree.1 h.2)

  shown-as : (sure : Event → Bool) (es : List Event) (x c : List ℕ) → AgreeOnAll f g es → ShowsEvents f sure x (by_kind es) c → ShowsEvents g sure x (by_kind es) c
  shown-as sure es x c agree h = record { tables = λ kind there. but-as sure (table_in kind x) (by_kind es kind) (table_in kind c) (of-kind es kind agree) (h.tables kind there); first = h.first; count = h.count }

  told-as : (vs : List UnitEvent) (es : List Event) → AgreeOnAll g f es → AreTold f vs es → AreTold g vs es
  told-as [] [] agree h = tt
  told-as [] (e ∷ es) agree h = absurd h
  told-as (v ∷ vs) [] agree h = absurd h
  told-as (v ∷ vs) (e ∷ es) agree h =
      let i = h.0.is in
      let begin = agree.0.0 in
      let end = agree.0.1 in (
        record {
          is = record {
            kind = i.kind;
            purpose = i.purpose;
            begin = i.begin;
            end = i.end;
            driver_begin = i.driver_begin ∙ sym begin.0;
            codriver_begin = i.codriver_begin ∙ sym begin.1;
            driver_end = i.driver_end ∙ sym end.0;
            codriver_end = i.codriver_end ∙ sym end.1;
            average = i.average;
          };
          there = h.0.there;
          other = h.0.other;
          begin = h.0.begin;
          end = h.0.end;
        },
        told-as vs es agree.1 h.1,
      )

-- ---- a run whose cards have numbers of 18 bytes both

-- an image whose number has them
spare-long : length (own_number spare) ≡ 18
unfolding own_number own_sizes card_number files_of application_of
spare-long = refl

image-of : (o : Origin) (c : Card) → card_image (named_as o).recording c ≡ image_or (card_image o.recording c)
image-of o A = refl
image-of o B = refl

pub same-number : (o : Origin) (c : Card) → IsOwnValid (card_image o.recording c) → number_in (named_as o) c ≡ number_in o c
same-number o c valid = ap own_number (image-of o c) ∙ ap (λ (q : Option (Fid × ℕ)). own_number (by_fault q (card_image o.recording c))) valid

pub all-long : (o : Origin) → AreLong o → AreNumbers (number_in (named_as o))
all-long o long c = ap (λ (x : List ℕ). length (own_number x)) (image-of o c) ∙ by (own_bad_file (card_image o.recording c)) refl
  where
    by : (q : Option (Fid × ℕ)) → own_bad_file (card_image o.recording c) ≡ q → length (own_number (by_fault q (card_image o.recording c))) ≡ 18
    by None is = long c is
    by (Some bad) is = spare-long

agree-one : (o : Origin) (q : Option Card) → IfSome q (ValidHere o) → number_or_none (number_in (named_as o)) q ≡ number_or_none (number_in o) q
agree-one o None valid = refl
agree-one o (Some c) valid = same-number o c valid

agree-all : (o : Origin) (es : List Event) → NamesValid o es → AgreeOnAll (number_in (named_as o)) (number_in o) es
agree-all o [] valid = tt
agree-all o (e ∷ es) valid =
    let begin = valid.0.0 in
    let end = valid.0.1 in
    (((agree-one o e.at_begin.driver begin.driver, agree-one o e.at_begin.codriver begin.codriver), (agree-one o e.at_end.driver end.driver, agree-one o e.at_end.codriver end.codriver)), agree-all o es valid.1)

-- events that name valid cards alone are told by its numbers, too
pub told-named : (o : Origin) (vs : List UnitEvent) (es : List Event) → NamesValid o es → AreTold (number_in o) vs es → AreTold (number_in (named_as o)) vs es
told-named o vs es valid told = told-as (number_in o) (number_in (named_as o)) vs es (agree-all o es valid) told

-- what is noted by its numbers is noted by those of the run
pub so-as : (o : Origin) (failed : Bool) (es : List Event) (d e : Devices) → NamesValid o es → NotesSo failed (named_as o) es d e → NotesSo failed o es d e
so-as o false es d e valid h = λ c there.
    let one = h c there in
    (one.0, one.1, shown-as (number_in (named_as o)) (number_in o) all_sure es one.0 c (agree-all o es valid) one.2)
so-as o true es d e valid h = λ c there.
    let one = h c there in
    (one.0, one.1, shown-as (number_in (named_as o)) (number_in o) none_sure es one.0 c (agree-all o es valid) one.2)

-- WHAT A CALL NOTES, where valid cards alone are named
pub notes-at : (vs : List UnitEvent) (failed : Bool) (d e : Devices) → NotesEvents vs failed d e → (o : Origin) → AreLong o → (es : List Event) → AreTold (number_in o) vs es → NamesValid o es → NotesSo failed o es d e
notes-at vs failed d e notes o long es told valid =
    so-as o failed es d e valid (notes (named_as o) (all-long o long) es (told-named o vs es valid told))
