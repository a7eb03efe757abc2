-- What a minute says on the cards is put for those that were present, one after the other; and then the unit keeps it.
use Rattle.std.proofs.Common.{◌≡◌, ◌≢◌, ◌∙◌, ◌⊎◌, inl, inr, ⊎_elim, ℕ, ◌≤◌, Bool, true, false, ◌&&◌, Option, Some, None, is_some, List, [], ◌∷◌, ◌++◌, map, filter, refl, ap, subst, sym}
use Rattle.std.specs.Prelude.{option_to_list, if◌then◌else◌}
use Rattle.activity_codec.specs.declared.entries.Entry.{Entry}
use Rattle.activity_codec.specs.declared.values.Slot.{Slot}
use Rattle.activity_codec.specs.declared.values.Slot.TheVariants.{Driver, CoDriver}
use Rattle.trace_model.specs.declared.Card.{Card}
use Rattle.trace_model.specs.declared.Card.TheVariants.{A, B}
use Rattle.tach_media.specs.Medium.{State, IsCoherent, HasCause}
use Rattle.log_model.specs.declared.lines.Mark.{Mark}
use Rattle.log_model.specs.Slots.{same_card}
use Rattle.hand_model.specs.card_image.Own.{IsOwnValid}
use Rattle.unit_model.specs.Days.{UnitMinute}
use Rattle.unit_minutes.specs.declared.kept.KeptMinute.{KeptMinute}
use Rattle.unit_minutes.specs.Kept.{kept_minute}
use Rattle.run_devices.specs.history_model.Minutes.{HistoryMinute, on_card}
use Rattle.run_devices.specs.history_model.Book.{Book}
use Rattle.run_devices.specs.device_rule.Device.{LeavesViews}
use Rattle.run_devices.specs.device_rule.Filling.{seen_by_unit, KeepsMinute, GivesUpDay}
use Rattle.run_devices.specs.device_rule.Marked.{of_card, of_unit}
use Rattle.run_devices.specs.device_rule.Steps.{IsKeeping}
use Rattle.run_devices.specs.device_rule.Rules.{Standing, Fits, IsPresent, CardRule}
use Rattle.run_devices.specs.safety_model.Safe.{card_of}
use Rattle.device_calls.specs.unit_rule.Rule.{Started, once_mended}
use Rattle.device_calls.specs.unit_rule.Marks.{UnitFollowsBook}
use Rattle.run_devices.specs.run_unit_course.Legs.{Travel}
use Rattle.device_calls.specs.unit_rule.Odometer.{HasTravelled, odometer_by, odometer_after}
use Rattle.device_calls.specs.Rule.{Both, opened, CardHolds, IsCommitted, IsHeldUp}
use Rattle.device_calls.specs.Travel.{HasGone}
use Rattle.card_slots.specs.declared.seats.Present.{Present}
use Rattle.run_crew.specs.declared.cards.Cards.{Cards}
use Rattle.run_crew.specs.Cabin.{AreTwo}
use Rattle.run_devices.specs.run_promise.Found.{Found, found_of, unit_seen, AnyKept}
use Rattle.run_devices.specs.run_promise.Between.{RunLedger, devices}
use Rattle.run_devices.specs.Told.{owes_nothing, AllGo, IsLitWith}
use Rattle.run_devices.proofs.Parts.{both_of, as-steps, owing-of}
use Rattle.run_minutes.specs.Keeping.{TellsPresent, act_in, entry_in, is_this}
use Rattle.run_minutes.specs.Books.{history_minute, MayCome}
use Rattle.run_minutes.specs.Owing.{and_put, MayPut, BooksPut, TravelsOn, owes_minute, IsOwedOrCut, BooksOwed}
use Rattle.run_minutes.proofs.Counts.{apart-turned}
use Rattle.run_minutes.proofs.MinuteOwed.{owed-or-cut}

-- ---- what it says

module _ (m : KeptMinute) (present : Present) (says : TellsPresent m present) where
  -- a minute by whether a card was present
  abbrev shown : Bool → Bool → UnitMinute
  shown a b = record { minute = m.minute; driver = record { act = m.driver.act; present = a }; codriver = record { act = m.codriver.act; present = b }; crew = a && b }

  pub kept-seen : kept_minute m ≡ seen_by_unit (history_minute present m)
  kept-seen = ap (λ (a : Bool). shown a m.codriver.present) says.driver ∙ ap (λ (b : Bool). shown (is_some present.driver) b) says.codriver

  abbrev saying : Slot → Bool → Bool → Entry
  saying slot a b = record { minute = m.minute; slot = slot; crew = a && b; act = act_in m slot }

  entry-said : (slot : Slot) → entry_in m slot ≡ saying slot (is_some present.driver) (is_some present.codriver)
  entry-said slot = ap (λ (a : Bool). saying slot a m.codriver.present) says.driver ∙ ap (λ (b : Bool). saying slot (is_some present.driver) b) says.codriver

-- ---- what is put

abbrev pub both_put : Option Card → Option Card → Entry → Entry → Card → List Entry
both_put driver codriver e d = and_put codriver d (and_put driver e owes_nothing)

abbrev said_on : Option Card → Option Card → Entry → Entry → Card → List Entry
said_on driver codriver e d c = map (λ k. e) (filter (same_card c) (option_to_list driver)) ++ map (λ k. d) (filter (same_card c) (option_to_list codriver))

pub clash : {T : Type 0} → true ≡ false → T
clash is = absurd (empty is)
  where
    empty : true ≡ false → ⊥
    empty e = cc

both-said : (driver codriver : Option Card) (e d : Entry) → AreTwo driver codriver → (c : Card) → both_put driver codriver e d c ≡ said_on driver codriver e d c
both-said None None e d two A = refl
both-said None None e d two B = refl
both-said None (Some A) e d two A = refl
both-said None (Some A) e d two B = refl
both-said None (Some B) e d two A = refl
both-said None (Some B) e d two B = refl
both-said (Some A) None e d two A = refl
both-said (Some A) None e d two B = refl
both-said (Some B) None e d two A = refl
both-said (Some B) None e d two B = refl
both-said (Some A) (Some B) e d two A = refl
both-said (Some A) (Some B) e d two B = refl
both-said (Some B) (Some A) e d two A = refl
both-said (Some B) (Some A) e d two B = refl
both-said (Some A) (Some A) e d two c = clash two
both-said (Some B) (Some B) e d two c = clash two

-- one entry, or none
one-put : (a b : Bool) (e d : Entry) → (o : Option Entry) × ((if b then d ∷ [] else (if a then e ∷ [] else [])) ≡ option_to_list o)
one-put a true e d = (Some d, refl)
one-put true false e d = (Some e, refl)
one-put false false e d = (None, refl)

pub this-card : (c : Card) → is_this (Some c) c ≡ true
this-card A = refl
this-card B = refl

some-put : (a b : Bool) (e d : Entry) → (a ≡ true) ⊎ (b ≡ true) → (if b then d ∷ [] else (if a then e ∷ [] else [])) ≡ [] → ⊥
some-put a true e d here is = cc
some-put true false e d here is = cc
some-put false false e d (inl here) is = cc
some-put false false e d (inr here) is = cc

-- an entry may be put
may-put : (f : Found) (w : RunLedger) (i : HistoryMinute) (o : Option Card) (e : Entry) (puts : Card → List Entry) → e.minute ≡ i.minute → MayCome f w i → ((c : Card) → o ≡ Some c → puts c ≡ []) → ((c : Card) → o ≡ Some c → on_card c i ≡ [] → ⊥) → MayPut f o e w puts
may-put f w i None e puts at comes free says = tt
may-put f w i (Some c) e puts at comes free says = ⊎_elim
    (λ none. absurd (says c refl none))
    (λ here. (
      here.0,
      free c refl,
      subst (λ (n : ℕ). w.due ≤ n) (sym at) comes.late,
      subst (λ (n : ℕ). 1440 ≤ n) (sym at) comes.day,
      subst (λ (n : ℕ). IsPresent (found_of f c).start (w.standing c) n) (sym at) here.1,
    )) (comes.fits c)

-- by what is put for each card
lit-puts : (f : Found) (w : RunLedger) (p q : Card → List Entry) (U X Y : State) → ((c : Card) → p c ≡ q c) → IsLitWith f w p owes_nothing (devices U X Y) → IsLitWith f w q owes_nothing (devices U X Y)
lit-puts f w p q U X Y same h = record {
  tells = h.tells;
  works = h.works;
  unit = h.unit;
  none = h.none;
  rules = λ c valid. subst (λ (es : List Entry). CardRule c (found_of f c).start AnyKept (found_of f c).began w.book (w.standing c) es [] (unit_seen f U) (of_card (card_of (devices U X Y) c))) (same c) (h.rules c valid);
  valid = h.valid;
  rises = h.rises;
  brought = h.brought;
  marks = h.marks;
  hands = h.hands;
}

-- what keeping a minute says of a card
abbrev pub Commits : (m : KeptMinute) (failed : Bool) (U V X : State) → Type 0
Commits m failed U V X = (r : Both) (c : Card) (s : Started) (due : ℕ) (b : Book) (marks : List Mark) (i : HistoryMinute) (z : Standing) → kept_minute m ≡ seen_by_unit i → UnitFollowsBook s due b marks U → b.maybe ≡ None → due ≤ i.minute
    → CardHolds r c b z (on_card c i) [] U X → Fits c (opened r c).start z i → IsCommitted r c b i z failed V X

-- the cards are as they were
go-on : (f : Found) (w : RunLedger) (cards : Cards) (U V X Y : State) → AllGo f w owes_nothing cards (devices U X Y) → AllGo f w owes_nothing cards (devices V X Y)
go-on f w cards U V X Y go = record { held = go.held; goes = go.goes }

-- by the entry and the cards
pub put-at : (o : Option Card) (e d : Entry) (failed : Bool) (cards known : Cards) (U V X Y : State) → e ≡ d → cards ≡ known → BooksPut o e failed cards (devices U X Y) (devices V X Y) → BooksPut o d failed known (devices U X Y) (devices V X Y)
put-at o e d failed cards known U V X Y same are puts =
    subst (λ (c : Cards). BooksPut o d failed c (devices U X Y) (devices V X Y)) are (subst (λ (x : Entry). BooksPut o x failed cards (devices U X Y) (devices V X Y)) same puts)

module _ (m : KeptMinute) (present : Present) (says : TellsPresent m present) (two : AreTwo present.driver present.codriver) where
  abbrev i : HistoryMinute
  i = history_minute present m

  abbrev e : Entry
  e = entry_in m Driver

  abbrev d : Entry
  d = entry_in m CoDriver

  pub all-said : (c : Card) → both_put present.driver present.codriver e d c ≡ on_card c i
  all-said c = both-said present.driver present.codriver e d two c
      ∙ ap (λ (x : Entry). said_on present.driver present.codriver x d c) (entry-said m present says Driver) ∙ ap (λ (x : Entry). said_on present.driver present.codriver (saying m present says Driver (is_some present.driver) (is_some present.codriver)) x c) (entry-said m present says CoDriver)

  one : (c : Card) → (o : Option Entry) × (on_card c i ≡ option_to_list o)
  one c = let here = one-put (is_this present.driver c) (is_this present.codriver c) e d in (here.0, sym (all-said c) ∙ here.1)

  pub says-some : (c : Card) → (is_this present.driver c ≡ true) ⊎ (is_this present.codriver c ≡ true) → on_card c i ≡ [] → ⊥
  says-some c here none = some-put (is_this present.driver c) (is_this present.codriver c) e d here (all-said c ∙ none)

  may-driver : (f : Found) (w : RunLedger) → MayCome f w i → MayPut f present.driver e w owes_nothing
  may-driver f w comes = may-put f w i present.driver e owes_nothing refl comes (λ c is. refl) (λ c is. says-some c (inl (ap (λ (o : Option Card). is_this o c) is ∙ this-card c)))

  may-codriver : (f : Found) (w : RunLedger) → MayCome f w i → MayPut f present.codriver d w (and_put present.driver e owes_nothing)
  may-codriver f w comes = may-put f w i present.codriver d (and_put present.driver e owes_nothing) refl comes
      (λ c is. ap (λ (b : Bool). if b then e ∷ [] else []) (apart-turned present.driver present.codriver c is two))
      (λ c is. says-some c (inr (ap (λ (o : Option Card). is_this o c) is ∙ this-card c)))

  module _ (cards after : Cards) (marks : List Mark) (U U1 X Y : State) where
    -- the unit failed in the first
    pub cut-first : BooksPut present.driver e true cards (devices U X Y) (devices U1 X Y) → TravelsOn U U1 → BooksOwed present m true cards after marks (devices U X Y) (devices U1 X Y)
    cut-first puts on = λ f w start g leg may gone odometer time.
        let b = may.booked in
        inl (puts f w owes_nothing b.found (may-driver f w may.comes) (owing-of f w (devices U X Y) b.powered.lit) b.powered.go, on start w.book g gone)

    module _ (first : BooksPut present.driver e false cards (devices U X Y) (devices U1 X Y)) (on : TravelsOn U U1) (U2 : State) where
      -- and in the second
      pub cut-second : BooksPut present.codriver d true cards (devices U1 X Y) (devices U2 X Y) → TravelsOn U1 U2 → BooksOwed present m true cards after marks (devices U X Y) (devices U2 X Y)
      cut-second puts next = λ f w start g leg may gone odometer time.
          let b = may.booked in
          inl (
            puts f w (and_put present.driver e owes_nothing) b.found (may-codriver f w may.comes) (first f w owes_nothing b.found (may-driver f w may.comes) (owing-of f w (devices U X Y) b.powered.lit) b.powered.go) (go-on f w cards U U1 X Y b.powered.go),
            next start w.book g (on start w.book g gone),
          )

      module _ (second : BooksPut present.codriver d false cards (devices U1 X Y) (devices U2 X Y)) (next : TravelsOn U1 U2) (V : State) (failed : Bool) (whole : IsCoherent U2) (whole_a : IsCoherent X) (whole_b : IsCoherent Y)
          (tells : is_some V.image ≡ is_some U2.image) (cause : HasCause U2 V failed)
          (holds : (s : Started) (due : ℕ) (b : Book) (marks : List Mark) (i : HistoryMinute) → kept_minute m ≡ seen_by_unit i → UnitFollowsBook (once_mended s) due b marks U2 → b.maybe ≡ None → due ≤ i.minute → IsHeldUp s b marks i failed V)
          (on_a : Commits m failed U2 V X) (on_b : Commits m failed U2 V Y)
          (views : (a b : List ℕ) (i : HistoryMinute) → kept_minute m ≡ seen_by_unit i → LeavesViews (of_unit a b U2) (of_unit a b V) (IsKeeping KeepsMinute GivesUpDay i))
          (goes : (start : ℕ) (g : Travel) (leg : ℕ) (s : Started) (due : ℕ) (b : Book) (marks : List Mark) (i : HistoryMinute) → kept_minute m ≡ seen_by_unit i → UnitFollowsBook s due b marks U2 → b.maybe ≡ None → due ≤ i.minute
          → HasTravelled start b g U2 → m.odometer.0 ≡ odometer_by (odometer_after start g.before) leg → HasGone start b g i leg failed V)
          (same : after ≡ cards) where
        committed : (f : Found) (w : RunLedger) (two : f.card_a.number ≢ f.card_b.number) → MayCome f w i → IsLitWith f w (owes_minute i) owes_nothing (devices U2 X Y) → (c : Card) → IsOwnValid (found_of f c).image
            → IsCommitted (both_of f two) c w.book i (w.standing c) failed V (card_of (devices U2 X Y) c)
        committed f w two comes h A valid = on_a (both_of f two) A (once_mended f.unit) w.due w.book w.marks i (w.standing A) (kept-seen m present says) h.unit h.none comes.late (as-steps f two A w.book (w.standing A) (on_card A i) [] U2 X (h.rules A valid))
            (⊎_elim (λ none. inl none) (λ here. inr here.1) (comes.fits A))
        committed f w two comes h B valid = on_b (both_of f two) B (once_mended f.unit) w.due w.book w.marks i (w.standing B) (kept-seen m present says) h.unit h.none comes.late (as-steps f two B w.book (w.standing B) (on_card B i) [] U2 Y (h.rules B valid))
            (⊎_elim (λ none. inl none) (λ here. inr here.1) (comes.fits B))

        wholes : (c : Card) → IsCoherent (card_of (devices U2 X Y) c)
        wholes A = whole_a
        wholes B = whole_b

        pub kept-or-cut : BooksOwed present m failed cards after marks (devices U X Y) (devices V X Y)
        kept-or-cut = λ f w start g leg may gone odometer time.
            let b = may.booked in
            let put = second f w (and_put present.driver e owes_nothing) b.found (may-codriver f w may.comes) (first f w owes_nothing b.found (may-driver f w may.comes) (owing-of f w (devices U X Y) b.powered.lit) b.powered.go) (go-on f w cards U U1 X Y b.powered.go) in
            let h = lit-puts f w (both_put present.driver present.codriver e d) (owes_minute i) U2 X Y all-said put in
            subst (λ (cards : Cards). IsOwedOrCut failed f start w i g leg cards (devices V X Y)) (sym same)
            (owed-or-cut f cards b.found w i U2 V X Y whole wholes h (go-on f w cards U U2 X Y b.powered.go) may.comes one b.early failed tells cause (holds f.unit w.due w.book w.marks i (kept-seen m present says) h.unit h.none may.comes.late)
            (committed f w b.found.two may.comes h) (views f.card_a.number f.card_b.number i (kept-seen m present says))
            start g leg (goes start g leg (once_mended f.unit) w.due w.book w.marks i (kept-seen m present says) h.unit h.none may.comes.late (next start w.book g (on start w.book g gone)) odometer) time)
