-- The events that a card shows once it was judged.
use Rattle.std.proofs.Common.{◌≡◌, ◌≢◌, ◌⊎◌, ◌∙◌, inl, inr, ⊎_elim, ℕ, ◌+◌, ◌/◌, ◌≤◌, Bool, true, false, cond, Some, IfSome, List, [], ◌∷◌, ◌++◌, length, refl, sym, ap, subst, arith}
use Rattle.std.specs.Prelude.{nat_lt, nat_eq}
use Rattle.std.proofs.lemmas.List.Elements.{filter-append}
use Rattle.tach_media.specs.Medium.{State, IsCoherent, LeavesOnly, Unchanged}
use Rattle.tach_media.proofs.Runs.{at_image}
use Rattle.tacho_types.specs.declared.texts.Registration.{Registration}
use Rattle.card_layout.specs.declared.files.Application.{Application}
use Rattle.card_layout.specs.Files.{image_size_of, place_of}
use Rattle.run_events.specs.card_files.declared.card_event.CardEvent.{CardEvent}
use Rattle.card_validity.specs.card_image.Fields.{file}
use Rattle.card_session.proofs.InsertingUse.{use_inside}
use Rattle.device_calls.specs.Entering.{owed_on}
use Rattle.unit_notes.specs.event_model.declared.kinds.TheConstants.{INSERTION_WHILE_DRIVING, SESSION_NOT_CLOSED}
use Rattle.run_insertion.specs.declared.lines.Entering.{Entering}
use Rattle.trace_model.specs.declared.Card.{Card}
use Rattle.trace_model.specs.declared.Card.TheVariants.{A, B}
use Rattle.card_layout.specs.declared.command.CardState.{CardState}
use Rattle.hand_model.specs.Holding.{none_held}
use Rattle.run_crew.specs.Cards.{known_of}
use Rattle.run_crew.specs.Cabin.{with_accepted}
use Rattle.run_minutes.specs.declared.keeper.Keeper.{Keeper}
use Rattle.run_minutes.specs.Keeping.{CardMayBeCalled}
use Rattle.run_minutes.specs.CardEvents.{LeavesEvents}
use Rattle.run_insertion.specs.Entering.{Ending, Unfit, Ahead, Fell, Unasked, Unnoted, Seated, Lost, cabin_by, and_one}
use Rattle.run_insertion.specs.Noted.{HasNoted, IsOnCard, IsComingOnCard, CardNote, PutIn, Shows, AreDone, AreBeingDone, moving_event, moving_on_card, card_notes_by, is_cut}
use Rattle.run_insertion.specs.CardEvents.{events_in, with_event, all_noted, AreBeingNoted, of_type, ShowsMore, NotesOnCard, unclosed_on}
use Rattle.run_insertion.specs.CardBrought.{moving_on, brought_on, is_cut_short}
use Rattle.run_insertion.proofs.CardTables.{all-shown, all-showing, same-file}
use Rattle.run_insertion.proofs.CardInserted.{same-image, shows-nothing, shows-unbegun, inserted-shown, inserting-shown}

-- ---- events, and then others

pub noted-both : (table : List (List ℕ)) (es fs : List CardEvent) → all_noted table (es ++ fs) ≡ all_noted (all_noted table es) fs
noted-both table [] fs = refl
noted-both table (e ∷ es) fs = noted-both (with_event table e) es fs

being-first : (table : List (List ℕ)) (es fs : List CardEvent) (new : List (List ℕ)) → AreBeingNoted table es new → AreBeingNoted table (es ++ fs) new
being-first table [] [] new is = is
being-first table [] (f ∷ fs) new is = inl is
being-first table (e ∷ es) fs new (inl is) = inl is
being-first table (e ∷ es) fs new (inr (inl is)) = inr (inl is)
being-first table (e ∷ es) fs new (inr (inr is)) = inr (inr (being-first (with_event table e) es fs new is))

being-next : (table : List (List ℕ)) (es fs : List CardEvent) (new : List (List ℕ)) → AreBeingNoted (all_noted table es) fs new → AreBeingNoted table (es ++ fs) new
being-next table [] fs new is = is
being-next table (e ∷ es) fs new is = inr (inr (being-next (with_event table e) es fs new is))

module _ (app : Application) (es fs : List CardEvent) where
  of-both : (kind : ℕ) → of_type kind (es ++ fs) ≡ of_type kind es ++ of_type kind fs
  of-both kind = filter-append (λ (e : CardEvent). nat_eq e.kind kind) es fs

  pub shows-both : (cut : Bool) (x y c : List ℕ) → ShowsMore app es false x y → ShowsMore app fs cut y c → ShowsMore app (es ++ fs) cut x c
  shows-both false x y c first next = λ kind.
      next kind ∙ ap (λ (l : List (List ℕ)). all_noted l (of_type kind fs)) (first kind) ∙ sym (noted-both (events_in app kind x) (of_type kind es) (of_type kind fs))
      ∙ ap (λ (l : List CardEvent). all_noted (events_in app kind x) l) (sym (of-both kind))
  shows-both true x y c first next = λ kind.
      subst (λ (l : List CardEvent). AreBeingNoted (events_in app kind x) l (events_in app kind c)) (sym (of-both kind))
      (being-next (events_in app kind x) (of_type kind es) (of_type kind fs) (events_in app kind c)
      (subst (λ (l : List (List ℕ)). AreBeingNoted l (of_type kind fs) (events_in app kind c)) (first kind) (next kind)))

  pub shows-first : (x c : List ℕ) → ShowsMore app es true x c → ShowsMore app (es ++ fs) true x c
  shows-first x c first = λ kind.
      subst (λ (l : List CardEvent). AreBeingNoted (events_in app kind x) l (events_in app kind c)) (sym (of-both kind))
      (being-first (events_in app kind x) (of_type kind es) (of_type kind fs) (events_in app kind c) (first kind))

-- ---- a card that was judged, by its image then

-- a card that was accepted, and was not torn out
abbrev pub IsSitting : Ending → Type 0
IsSitting (Unfit fid place) = ⊥
IsSitting (Ahead stored) = ⊥
IsSitting Fell = ⊥
IsSitting Unasked = ⊥
IsSitting (Unnoted entered clock) = ⊥
IsSitting (Seated entered clock entry) = Unit {0}
IsSitting (Lost entered clock entry) = ⊥

module _ (app : Application) (registration : Registration) (e : Entering) (u y : List ℕ) (fits : image_size_of app ≤ length y) where
  abbrev Done : List CardNote → List ℕ → List ℕ → Type 0
  Done ns x c = AreDone (IsOnCard app registration e u) ns x c

  abbrev Doing : List CardNote → List ℕ → List ℕ → Type 0
  Doing ns x c = AreBeingDone (IsOnCard app registration e u) (IsComingOnCard app registration e u) ns x c

  room : place_of app (file 0x0507) + 19 ≤ length y
  room = omega (arith, fits, use_inside app)

  moving-kind : INSERTION_WHILE_DRIVING ≢ SESSION_NOT_CLOSED
  moving-kind is = omega (arith, is)

  -- that the vehicle moves
  moving-done : (z c : List ℕ) → Done (moving_on_card registration e) z c → ShowsMore app (moving_on registration e) false z c
  moving-done z c = by (nat_lt 0 e.speed)
    where
      by : (b : Bool) → Done (cond b (Shows (moving_event registration e) ∷ []) []) z c → ShowsMore app (cond b (moving_event registration e ∷ []) []) false z c
      by true is = all-shown app (moving_event registration e ∷ []) ((inl refl, moving-kind), tt) z c is
      by false is = shows-nothing app false z c (same-image app z c is)

  moving-doing : (z c : List ℕ) → Doing (moving_on_card registration e) z c → ShowsMore app (moving_on registration e) true z c
  moving-doing z c = by (nat_lt 0 e.speed)
    where
      by : (b : Bool) → Doing (cond b (Shows (moving_event registration e) ∷ []) []) z c → ShowsMore app (cond b (moving_event registration e ∷ []) []) true z c
      by true (inl is) = all-showing app (moving_event registration e ∷ []) ((inl refl, moving-kind), tt) z c (inl is)
      by true (inr is) = absurd is.2
      by false is = absurd is

  put-in-done : (z : List ℕ) → IsOnCard app registration e u PutIn y z → ShowsMore app (unclosed_on app e.at.second y) false y z
  put-in-done z is = inserted-shown app registration e.odometer.0 (owed_on app u y) e.at.second y room z is

  put-in-doing : (c : List ℕ) → IsComingOnCard app registration e u PutIn y c → ShowsMore app (unclosed_on app e.at.second y) true y c
  put-in-doing c is = inserting-shown app registration e.odometer.0 (owed_on app u y) e.at.second y room c is

  whole-done : (c : List ℕ) → Done (PutIn ∷ moving_on_card registration e) y c → ShowsMore app (unclosed_on app e.at.second y ++ moving_on registration e) false y c
  whole-done c (z, put, rest) = shows-both app (unclosed_on app e.at.second y) (moving_on registration e) false y z c (put-in-done z put) (moving-done z c rest)

  whole-doing : (c : List ℕ) → Doing (PutIn ∷ moving_on_card registration e) y c → ShowsMore app (unclosed_on app e.at.second y ++ moving_on registration e) true y c
  whole-doing c (inl putting) = shows-first app (unclosed_on app e.at.second y) (moving_on registration e) y c (put-in-doing c putting)
  whole-doing c (inr (z, put, rest)) = shows-both app (unclosed_on app e.at.second y) (moving_on registration e) true y z c (put-in-done z put) (moving-doing z c rest)

  alone-doing : (c : List ℕ) → Doing (PutIn ∷ []) y c → ShowsMore app (unclosed_on app e.at.second y) true y c
  alone-doing c (inl putting) = put-in-doing c putting
  alone-doing c (inr is) = absurd is.2

  -- at a moment of it, or before
  brought-at : (ending : Ending) (failed : Bool) (c : List ℕ) → is_cut_short ending failed ≡ true → Doing (card_notes_by ending registration e) y c ⊎ (c ≡ y) → ShowsMore app (brought_on ending app registration e y) true y c
  brought-at (Unfit fid place) failed c cut is = absurd (let wrong : false ≡ true = cut in cc)
  brought-at (Ahead stored) failed c cut is = absurd (let wrong : false ≡ true = cut in cc)
  brought-at Fell failed c cut is = ⊎_elim (λ doing. alone-doing c doing) (λ same. shows-unbegun app (unclosed_on app e.at.second y) y c (same-image app y c same)) is
  brought-at Unasked failed c cut is = absurd (let wrong : false ≡ true = cut in cc)
  brought-at (Unnoted entered clock) failed c cut is = ⊎_elim (λ doing. alone-doing c doing) (λ same. shows-unbegun app (unclosed_on app e.at.second y) y c (same-image app y c same)) is
  brought-at (Seated entered clock entry) failed c cut is = ⊎_elim (λ doing. whole-doing c doing) (λ same. shows-unbegun app (unclosed_on app e.at.second y ++ moving_on registration e) y c (same-image app y c same)) is
  brought-at (Lost entered clock entry) failed c cut is = ⊎_elim (λ doing. whole-doing c doing) (λ same. shows-unbegun app (unclosed_on app e.at.second y ++ moving_on registration e) y c (same-image app y c same)) is

  -- behind it; where nothing is brought, at each moment
  brought-none : (ending : Ending) (failed : Bool) (c : List ℕ) → is_cut_short ending failed ≡ false → Doing (card_notes_by ending registration e) y c ⊎ (c ≡ y)
      → (IsSitting ending → is_cut ending failed ≡ false → Done (card_notes_by ending registration e) y c) → ShowsMore app (brought_on ending app registration e y) false y c
  brought-none (Unfit fid place) failed c cut is done = ⊎_elim (λ none. absurd none) (λ same. shows-nothing app false y c (same-image app y c same)) is
  brought-none (Ahead stored) failed c cut is done = ⊎_elim (λ none. absurd none) (λ same. shows-nothing app false y c (same-image app y c same)) is
  brought-none Fell failed c cut is done = absurd (let wrong : true ≡ false = cut in cc)
  brought-none Unasked failed c cut is done = ⊎_elim (λ none. absurd none) (λ same. shows-nothing app false y c (same-image app y c same)) is
  brought-none (Unnoted entered clock) failed c cut is done = absurd (let wrong : true ≡ false = cut in cc)
  brought-none (Seated entered clock entry) failed c cut is done = whole-done c (done tt cut)
  brought-none (Lost entered clock entry) failed c cut is done = absurd (let wrong : true ≡ false = cut in cc)

-- ---- over states: it was judged as M, which worked, and stands as Y, which works where it is accepted

module _ (app : Application) (registration : Registration) (e : Entering) (failed : Bool) (u y : List ℕ) (M Y : State) (whole : IsCoherent M) (after : IsCoherent Y) (works : M.works ≡ true) (is : M.image ≡ Some y) (fits : image_size_of app ≤ length y) where
  pub brought-by : (ending : Ending) → (IsSitting ending → Y.works ≡ true) → HasNoted (IsOnCard app registration e u) (IsComingOnCard app registration e u) (card_notes_by ending registration e) (is_cut ending failed) M Y
      → (c : List ℕ) → Y.may_leave c → ShowsMore app (brought_on ending app registration e y) (is_cut_short ending failed) y c
  brought-by ending sits noted c left = by (is_cut_short ending failed) refl
    where
      now : AreBeingDone (IsOnCard app registration e u) (IsComingOnCard app registration e u) (card_notes_by ending registration e) y c ⊎ (c ≡ y)
      now = ⊎_elim
          (λ before. inr (same (whole.only c works before)))
          (λ (x, at, doing). inl (subst (λ (l : List ℕ). AreBeingDone (IsOnCard app registration e u) (IsComingOnCard app registration e u) (card_notes_by ending registration e) l c) (from x at) doing))
          (noted.moments.now c left)
        where
          same : M.image ≡ Some c → c ≡ y
          same there = cc

          from : (x : List ℕ) → M.image ≡ Some x → x ≡ y
          from x at = cc

      done : IsSitting ending → is_cut ending failed ≡ false → AreDone (IsOnCard app registration e u) (card_notes_by ending registration e) y c
      done sitting well =
          at_image (λ (l : List ℕ). AreDone (IsOnCard app registration e u) (card_notes_by ending registration e) y l) (after.only c (sits sitting) left)
          (at_image (λ (l : List ℕ). IfSome Y.image (AreDone (IsOnCard app registration e u) (card_notes_by ending registration e) l)) is (noted.whole well))

      by : (b : Bool) → is_cut_short ending failed ≡ b → ShowsMore app (brought_on ending app registration e y) (is_cut_short ending failed) y c
      by true cut = subst (λ (b : Bool). ShowsMore app (brought_on ending app registration e y) b y c) (sym cut) (brought-at app registration e u y fits ending failed c cut now)
      by false cut = subst (λ (b : Bool). ShowsMore app (brought_on ending app registration e y) b y c) (sym cut) (brought-none app registration e u y fits ending failed c cut now done)

-- reads alone leave what was left before
pub only-left : {X M : State} → LeavesOnly X M Unchanged → (c : List ℕ) → M.may_leave c → X.may_leave c
only-left leaves c left = ⊎_elim (λ before. before) (λ one. absurd one.2) (leaves.now c left)

-- a card that was accepted works
pub sits-works : (e : Entering) (k v : Keeper) (noted : ℕ) (ending : Ending) (chip : CardState) (Y : State) → v ≡ record k { cabin = cabin_by ending e noted k.cabin } → CardMayBeCalled (known_of v.cabin.cards e.which) chip Y → IsSitting ending → Y.works ≡ true
sits-works e k v noted (Unfit fid place) chip Y is ready sitting = absurd sitting
sits-works e k v noted (Ahead stored) chip Y is ready sitting = absurd sitting
sits-works e k v noted Fell chip Y is ready sitting = absurd sitting
sits-works e k v noted Unasked chip Y is ready sitting = absurd sitting
sits-works e k v noted (Unnoted entered clock) chip Y is ready sitting = absurd sitting
sits-works e k v noted (Seated entered clock entry) chip Y is ready sitting =
    at e.which (subst (λ (w : Keeper). CardMayBeCalled (known_of w.cabin.cards e.which) chip Y) is ready)
  where
    at : (card : Card) → CardMayBeCalled (known_of (with_accepted e.slot card entered.look.number entered.row (record { session = entered.session; held = none_held (e.at.second / 60); entry = entry; noted = and_one noted }) k.cabin).cards card) chip Y → Y.works ≡ true
    at A now = now.works
    at B now = now.works
sits-works e k v noted (Lost entered clock entry) chip Y is ready sitting = absurd sitting

-- ---- of states

-- notes of calls one after another
pub notes-then : (app : Application) (es fs : List CardEvent) (cut : Bool) (X M Y : State) → NotesOnCard app es false X M → NotesOnCard app fs cut M Y → NotesOnCard app (es ++ fs) cut X Y
notes-then app es fs cut X M Y first next c left =
    let two = next c left in
    let one = first two.0 two.1 in
    (one.0, one.1, shows-both app es fs cut one.0 two.0 c one.2 two.2)

-- calls that leave the events
pub notes-still : (app : Application) (cut : Bool) (X Y : State) → LeavesEvents app X Y → NotesOnCard app [] cut X Y
notes-still app cut X Y leaves c left =
    let was = leaves c left in
    (was.0, was.1, shows-nothing app cut was.0 c (same-file app was.0 c was.2))
