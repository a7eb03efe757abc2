-- A note on the unit, of an insertion, a withdrawal, a place or an event, and a note on a card: what is carried stands behind it.
use Rattle.std.proofs.Common.{◌≡◌, ◌≢◌, ◌⊎◌, inl, inr, ℕ, suc, max, ◌≤◌, true, Option, Some, None, IfSome, List, [], length, Contains, ap, subst, ◌∙◌, sym, arith}
use Rattle.std.proofs.lemmas.List.{append-nil}
use Rattle.device_calls.specs.activity_codec.declared.entries.Entry.{Entry}
use Rattle.device_calls.specs.trace_model.declared.Card.{Card}
use Rattle.device_calls.specs.trace_model.declared.Card.TheVariants.{A, B}
use Rattle.tach_media.specs.Medium.{State, IsCoherent, LeavesOnly}
use Rattle.tach_media.proofs.Runs.{at_image, if_told}
use Rattle.tach_media.specs.card_layout.declared.files.Application.{Application}
use Rattle.tach_media.specs.card_layout.Application.{IsApplication}
use Rattle.tach_media.specs.card_layout.Files.{image_size_of}
use Rattle.device_calls.specs.card_image.Judging.{IsValid}
use Rattle.device_calls.specs.card_image.View.{CardView}
use Rattle.device_calls.specs.card_image.Own.{own_view, own_sizes, IsOwnValid}
use Rattle.device_calls.specs.card_session.Sessions.{IsSession, IsValue}
use Rattle.device_calls.specs.card_session.Cards.{MayEnd}
use Rattle.device_calls.specs.card_by_hand.First.{IsShutAt}
use Rattle.device_calls.specs.card_string.Since.{SitsSince, HoldsSince}
use Rattle.device_calls.proofs.card_string.Since.{beside_holds}
use Rattle.device_calls.specs.Journal.{LeavesJournal}
use Rattle.device_calls.specs.device_rule.Views.{other}
use Rattle.device_calls.specs.device_rule.Device.{LeavesViews}
use Rattle.device_calls.specs.device_rule.Rules.{Standing, In, Torn, since, CardDark, CardRule}
use Rattle.device_calls.specs.device_rule.Marked.{of_card, HasBrought}
use Rattle.device_calls.specs.unit_rule.Safe.{card_of}
use Rattle.device_calls.specs.Rule.{CardHolds}
use Rattle.device_calls.specs.CardNotes.{IsNote, IsSound}
use Rattle.device_calls.proofs.Noted.{noted-holds, noted-card}
use Rattle.device_calls.proofs.CardNoted.{noted-valid, noted-sizes, noted-own, noted-tears, noted-holds as card-noted}
use Rattle.run_crew.specs.declared.cards.Accepted.{Accepted}
use Rattle.run_crew.specs.declared.cards.Cards.{Cards}
use Rattle.run_crew.specs.Cards.{session_of}
use Rattle.device_calls.specs.unit_rule.Rule.{once_mended}
use Rattle.device_calls.proofs.unit_rule.Marking.{holds-dark}
use Rattle.run_promise.specs.Found.{Found, found_of, unit_seen, AnyKept}
use Rattle.run_promise.specs.Cards.{brought_by, CardMarksHold, HandMarksHold}
use Rattle.run_promise.specs.Between.{RunLedger, devices}
use Rattle.run_devices.specs.Strung.{CardHoldsString}
use Rattle.run_devices.specs.Told.{AreFoundCards, SessionIsOnCard, GoesOwing, owes_nothing, AllGo, IsLitWith, DevicesPowered, DevicesUnpowered, arranged, with_standing}
use Rattle.run_devices.proofs.Parts.{both_of, as-steps, of-steps, CardLit, off-of, UnitLit, AreParts, MarksLit, parts-of, powered-of, powerless-of, owing-of, brought-on, at-card, at-other}
use Rattle.run_devices.proofs.Holders.{note-rest}
use Rattle.run_devices.specs.Registered.{vehicles_before}
use Rattle.run_devices.proofs.Registered.{note-stands, note-minutes}
use Rattle.run_devices.proofs.Used.{note-used}
use Rattle.run_devices.proofs.OnCards.{own-holder-still, own-valid, valid-own, valid-or, no-marks, time-of, Rises, rises-run, none-falls, marks-on, brought-card, bound_of, held-on, hands-on, valid-on, told-on}
use Rattle.run_devices.proofs.NotedCard.{note-ends, note-number, note-book, note-session_time, note-sits, note-shut, note-session}
use Rattle.device_calls.proofs.card_string.MadeSince.{since_same}

-- ---- ON THE UNIT, whatever is put or owed

module _ (f : Found) (two : f.card_a.number ≢ f.card_b.number) (w : RunLedger) (puts owes : Card → List Entry) (U V X Y : State) (whole : IsCoherent U) (h : IsLitWith f w puts owes (devices U X Y)) (run : LeavesOnly U V LeavesJournal) where
  rule-on : (c : Card) (Z : State) (m d : List Entry) → CardRule c (found_of f c).start AnyKept (found_of f c).began w.book (w.standing c) m d (unit_seen f U) (of_card Z) → CardRule c (found_of f c).start AnyKept (found_of f c).began w.book (w.standing c) m d (unit_seen f V) (of_card Z)
  rule-on c Z m d rule =
      of-steps f two c w.book (w.standing c) m d V Z (noted-card (both_of f two) c (once_mended f.unit) w.due w.book w.marks (w.standing c) Z whole h.unit run m d (as-steps f two c w.book (w.standing c) m d U Z rule))

  rules : (c : Card) → IsOwnValid (found_of f c).image → CardRule c (found_of f c).start AnyKept (found_of f c).began w.book (w.standing c) (puts c) (owes c) (unit_seen f V) (of_card (card_of (devices V X Y) c))
  rules A valid = rule-on A X (puts A) (owes A) (h.rules A valid)
  rules B valid = rule-on B Y (puts B) (owes B) (h.rules B valid)

  brought : (c : Card) → IsOwnValid (found_of f c).image → (k : ℕ) → Contains (w.brought c) k → HasBrought f.card_a.number f.card_b.number c k V (card_of (devices V X Y) c)
  brought A valid k in_ = brought-on f A k w.book (w.standing A) (w.standing A) (once_mended f.unit) w.due w.marks U V X whole h.tells h.unit h.none (h.rules A valid).dark (rules A valid).dark (h.brought A valid k in_)
  brought B valid k in_ = brought-on f B k w.book (w.standing B) (w.standing B) (once_mended f.unit) w.due w.marks U V Y whole h.tells h.unit h.none (h.rules B valid).dark (rules B valid).dark (h.brought B valid k in_)

  valid-still : (c : Card) → IsOwnValid (found_of f c).image → (x : List ℕ) → (card_of (devices V X Y) c).left_since (found_of f c).began x → IsOwnValid x
  valid-still A valid = h.valid A valid
  valid-still B valid = h.valid B valid

  marks-still : (c : Card) → CardMarksHold (found_of f c) c w.book w.marks (card_of (devices V X Y) c)
  marks-still A = h.marks A
  marks-still B = h.marks B

  hands-still : (c : Card) → IsOwnValid (found_of f c).image → HandMarksHold (found_of f c) (w.hands c) (w.firsts c) (card_of (devices V X Y) c)
  hands-still A valid = h.hands A valid
  hands-still B valid = h.hands B valid

  pub noted-with : V.works ≡ true → IsLitWith f w puts owes (devices V X Y)
  noted-with works = record {
    tells = run.tells ∙ h.tells;
    works = works;
    unit = noted-holds (once_mended f.unit) w.due w.book w.marks whole run h.unit;
    none = h.none;
    rules = rules;
    valid = valid-still;
    rises = h.rises;
    brought = brought;
    marks = marks-still;
    hands = hands-still;
  }

-- the strings and the sessions of the cards do not ask of the unit
pub go-unit : (f : Found) (w : RunLedger) (owes : Card → List Entry) (cards : Cards) (U V X Y : State) → AllGo f w owes cards (devices U X Y) → AllGo f w owes cards (devices V X Y)
go-unit f w owes cards U V X Y go = record { held = held; goes = goes }
  where
    held : (c : Card) → IsOwnValid (found_of f c).image → CardHoldsString (found_of f c) (w.hands c) c w.book (w.standing c) (card_of (devices V X Y) c)
    held A = go.held A
    held B = go.held B

    goes : (c : Card) → IsOwnValid (found_of f c).image → GoesOwing (found_of f c) (w.hands c) c w.book (owes c) (w.standing c) (session_of cards c) (card_of (devices V X Y) c)
    goes A = go.goes A
    goes B = go.goes B

module _ (f : Found) (w : RunLedger) (cards : Cards) (U V X Y : State) (found : AreFoundCards f cards) (whole : IsCoherent U) (p : DevicesPowered f w cards (devices U X Y)) (run : LeavesOnly U V LeavesJournal) where
  abbrev before : AreParts f w cards A U X Y
  before = parts-of f w cards A U X Y p

  lit-card : (c : Card) (session : Option Accepted) (Z : State) → CardLit f w.book (w.standing c) (w.hands c) (w.firsts c) (w.brought c) session c U Z → CardLit f w.book (w.standing c) (w.hands c) (w.firsts c) (w.brought c) session c V Z
  lit-card c session Z one =
      let rule = rule-on f found.two w owes_nothing owes_nothing U V X Y whole (owing-of f w (devices U X Y) p.lit) run c Z [] [] one.rule in
      record {
        rule = rule;
        valid = one.valid;
        rises = one.rises;
        brought = λ k in_. brought-on f c k w.book (w.standing c) (w.standing c) (once_mended f.unit) w.due w.marks U V Z whole p.lit.tells p.lit.unit p.lit.none one.rule.dark rule.dark (one.brought k in_);
        held = one.held;
        hands = one.hands;
        goes = one.goes;
      }

  unit-on : (works : V.works ≡ true) → UnitLit f w V
  unit-on works = record { tells = run.tells ∙ p.lit.tells; works = works; unit = noted-holds (once_mended f.unit) w.due w.book w.marks whole run p.lit.unit; none = p.lit.none }

  -- NOTED
  pub noted-powered : V.works ≡ true → DevicesPowered f w cards (devices V X Y)
  noted-powered works = powered-of f w cards A V X Y found (record {
    unit = unit-on works;
    mine = λ valid. lit-card A (session_of cards A) X (before.mine valid);
    others = λ valid. lit-card B (session_of cards B) Y (before.others valid);
    marks_mine = p.lit.marks A;
    marks_others = p.lit.marks B;
  })

  -- or the unit failed
  pub noted-powerless : DevicesUnpowered f w (devices V X Y)
  noted-powerless = powerless-of f w cards A V X Y found (record {
    tells = run.tells ∙ p.lit.tells;
    unit = holds-dark f.unit w.due w.book w.marks V (noted-holds (once_mended f.unit) w.due w.book w.marks whole run p.lit.unit);
    none = p.lit.none;
    mine = λ valid. off-of f w.book (w.standing A) (w.hands A) (w.firsts A) (w.brought A) (session_of cards A) A V X (lit-card A (session_of cards A) X (before.mine valid));
    others = λ valid. off-of f w.book (w.standing B) (w.hands B) (w.firsts B) (w.brought B) (session_of cards B) B V Y (lit-card B (session_of cards B) Y (before.others valid));
    marks_mine = p.lit.marks A;
    marks_others = p.lit.marks B;
  })

-- ---- ON A CARD IN ITS SLOT, of these sizes, with this session
module _ (f : Found) (w : RunLedger) (c : Card) (U X Y : State) (two : f.card_a.number ≢ f.card_b.number) (unit_whole : IsCoherent U) (whole : IsCoherent X) (after : IsCoherent Y) (unit : UnitLit f w U) (sound : IsApplication (own_sizes (found_of f c).image)) (a : Accepted) (value : IsValue a.session)
    (one : CardLit f w.book (w.standing c) (w.hands c) (w.firsts c) (w.brought c) (Some a) c U X) (run : LeavesOnly X Y (IsNote (own_sizes (found_of f c).image))) where
  abbrev on : SessionIsOnCard (found_of f c) (w.hands c) one.goes.has (w.standing c) a.session X
  on = one.goes.goes.0

  -- its image is valid, by its sizes
  sound-at : (x : List ℕ) → X.image ≡ Some x → IsSound (own_sizes (found_of f c).image) x
  sound-at x is =
      let there = whole.is_left x is in
      ((one.held.now x there).0, own-valid (own_sizes (found_of f c).image) x (one.held.now x there).0 (one.valid x (whole.counts_now (found_of f c).began x one.rule.dark.later there)))

  known : IfSome X.image (IsSound (own_sizes (found_of f c).image))
  known = if_told X.image (IsSound (own_sizes (found_of f c).image)) sound-at

  same-view : (x n : List ℕ) → X.image ≡ Some x → IsNote (own_sizes (found_of f c).image) x n → own_view n ≡ own_view x
  same-view x n is note = noted-own (own_sizes (found_of f c).image) sound x (sound-at x is).1 n note (sound-at x is).0

  same-sizes : (x n : List ℕ) → X.image ≡ Some x → IsNote (own_sizes (found_of f c).image) x n → own_sizes n ≡ own_sizes x
  same-sizes x n is note = noted-sizes (own_sizes (found_of f c).image) sound x (sound-at x is).1 n note

  views : LeavesViews (of_card X) (of_card Y) Rises
  views = rises-run (IsNote (own_sizes (found_of f c).image)) X Y whole run (λ x n is note. omega (arith, ap (λ (v : CardView). v.mark) (same-view x n is note)))

  -- the string, where a card that stands otherwise takes its entries no earlier
  held : (z : Standing) → ((n : ℕ) → since (w.standing c) n ≤ since z n) → ((n : ℕ) → since z n ≤ since (w.standing c) n) → CardHoldsString (found_of f c) (w.hands c) c w.book z Y
  held z le ge = held-on (found_of f c) (w.hands c) c w.book sound (w.standing c) z (IsNote (own_sizes (found_of f c).image)) X Y one.rule.dark.later run
      (λ x there h. (h.0, subst (λ (n : ℕ). HoldsSince (own_sizes (found_of f c).image) (found_of f c).image (w.hands c) (brought_by c (found_of f c).start w.book) (suc (max (found_of f c).start.word n)) x) (both (le (own_view x).newest) (ge (own_view x).newest)) h.1))
      (λ x n is note h. (
        same-sizes x n is note ∙ h.0,
        subst (λ (v : CardView). HoldsSince (own_sizes (found_of f c).image) (found_of f c).image (w.hands c) (brought_by c (found_of f c).start w.book) (suc (max (found_of f c).start.word (since z v.newest))) n) (sym (same-view x n is note))
            (subst (λ (k : ℕ). HoldsSince (own_sizes (found_of f c).image) (found_of f c).image (w.hands c) (brought_by c (found_of f c).start w.book) (suc (max (found_of f c).start.word k)) n) (both (le (own_view x).newest) (ge (own_view x).newest))
            (beside_holds (own_sizes (found_of f c).image) (found_of f c).image x n (note-book (own_sizes (found_of f c).image) sound x (sound-at x is).1 n note)
            (w.hands c) (brought_by c (found_of f c).start w.book) (bound_of (found_of f c) (w.standing c) x) (note-session_time (own_sizes (found_of f c).image) sound x (sound-at x is).1 n note) h.1)),
      ))
      (λ x n is note. own-holder-still (own_sizes (found_of f c).image) x n (sound-at x is).0 (same-sizes x n is note ∙ (sound-at x is).0) (note-number (own_sizes (found_of f c).image) sound x (sound-at x is).1 n note) (note-rest (own_sizes (found_of f c).image) x n note))
      (λ x n is note own told. record {
        entries = note-stands (vehicles_before (own_sizes (found_of f c).image) (found_of f c).vehicle (found_of f c).image) (own_sizes (found_of f c).image) sound x (sound-at x is).1 n note told.entries;
        minutes = note-minutes (vehicles_before (own_sizes (found_of f c).image) (found_of f c).vehicle (found_of f c).image) (own_sizes (found_of f c).image) sound x (sound-at x is).1 n note (same-view x n is note) told.minutes;
        session = note-used (own_sizes (found_of f c).image) (found_of f c).vehicle (found_of f c).image x n note told.session;
      }) whole one.held
    where
      both : {m n : ℕ} → m ≤ n → n ≤ m → m ≡ n
      both {m} {n} low high = omega (arith, low, high)

  hands-behind : HandMarksHold (found_of f c) (w.hands c) (w.firsts c) Y
  hands-behind = hands-on (found_of f c) (w.hands c) c w.book sound (w.firsts c) (w.standing c) (w.standing c) (IsNote (own_sizes (found_of f c).image)) X Y run
      (λ x n is note h. (
        same-sizes x n is note ∙ h.0,
        subst (λ (v : CardView). HoldsSince (own_sizes (found_of f c).image) (found_of f c).image (w.hands c) (brought_by c (found_of f c).start w.book) (suc (max (found_of f c).start.word (since (w.standing c) v.newest))) n) (sym (same-view x n is note))
            (beside_holds (own_sizes (found_of f c).image) (found_of f c).image x n (note-book (own_sizes (found_of f c).image) sound x (sound-at x is).1 n note)
            (w.hands c) (brought_by c (found_of f c).start w.book) (bound_of (found_of f c) (w.standing c) x) (note-session_time (own_sizes (found_of f c).image) sound x (sound-at x is).1 n note) h.1),
      )) whole one.held one.hands

  valid-all : (n : List ℕ) → Y.left_since (found_of f c).began n → IsOwnValid n
  valid-all = valid-on (found_of f c).began (IsNote (own_sizes (found_of f c).image)) X Y one.rule.dark.later run
      (λ x n is note. valid-own (own_sizes (found_of f c).image) n (same-sizes x n is note ∙ (sound-at x is).0) (noted-valid (own_sizes (found_of f c).image) sound x (sound-at x is).1 n note)) one.valid

  holds : CardHolds (both_of f two) c w.book (w.standing c) [] [] U X
  holds = as-steps f two c w.book (w.standing c) [] [] U X one.rule

  behind : (z : Standing) → CardDark c (found_of f c).start AnyKept (found_of f c).began w.book z (unit_seen f U) (of_card Y) → (k : ℕ) → Contains (w.brought c) k → HasBrought f.card_a.number f.card_b.number c k U Y
  behind z dark k in_ = brought-card f c k w.book (w.standing c) z (once_mended f.unit) w.due w.marks U U X Y unit_whole unit.tells unit.unit unit.none one.rule.dark dark (none-falls X Y views) (one.brought k in_)

  pub note-marks : MarksLit f w c X → MarksLit f w c Y
  note-marks h =
      marks-on (found_of f c) c w.book w.marks (IsNote (own_sizes (found_of f c).image)) X Y whole run
      (λ n x y is le note. since_same (own_sizes (found_of f c).image) n x y (note-book (own_sizes (found_of f c).image) sound x (sound-at x is).1 y note)) views h

  -- it is noted
  module _ (works : X.works ≡ true) (well : Y.works ≡ true) (room : image_size_of (own_sizes (found_of f c).image) ≤ X.size) where
    long : {x : List ℕ} → X.image ≡ Some x → image_size_of a.session.application ≤ length x
    long {x} is = subst (λ (p : Application). image_size_of p ≤ length x) (sym on.sizes) (omega (arith, room, whole.sized x is))

    long-after : {n : List ℕ} → Y.image ≡ Some n → image_size_of a.session.application ≤ length n
    long-after {n} is = subst (λ (p : Application). image_size_of p ≤ length n) (sym on.sizes) (omega (arith, room, run.size, after.sized n is))

    session-told : (n : List ℕ) → Y.image ≡ Some n → IsSession a.session n × MayEnd a.session.application n × SitsSince a.session.application (found_of f c).image (w.hands c) one.goes.has (suc (max (found_of f c).start.word a.session.minute)) n
    session-told n is = by (told-on (IsNote (own_sizes (found_of f c).image)) X Y whole after works run n is)
      where
        by : (x : List ℕ) × (X.image ≡ Some x) × ((n ≡ x) ⊎ IsNote (own_sizes (found_of f c).image) x n) → IsSession a.session n × MayEnd a.session.application n × SitsSince a.session.application (found_of f c).image (w.hands c) one.goes.has (suc (max (found_of f c).start.word a.session.minute)) n
        by (x, was, inl same) = (
          subst (IsSession a.session) (sym same) (at_image (IsSession a.session) was on.session),
          subst (MayEnd a.session.application) (sym same) (at_image (MayEnd a.session.application) was on.ends),
          subst (SitsSince a.session.application (found_of f c).image (w.hands c) one.goes.has (suc (max (found_of f c).start.word a.session.minute))) (sym same)
              (at_image (SitsSince a.session.application (found_of f c).image (w.hands c) one.goes.has (suc (max (found_of f c).start.word a.session.minute))) was on.goes),
        )
        by (x, was, inr note) =
            let note_s = subst (λ (p : Application). IsNote p x n) (sym on.sizes) note in
            let valid_s = subst (λ (p : Application). IsValid p x) (sym on.sizes) (sound-at x was).1 in
            let sound_s = subst IsApplication (sym on.sizes) sound in (
              note-session a.session value.days sound_s x valid_s n note_s (at_image (IsSession a.session) was on.session),
              note-ends a.session.application sound_s x n (long was) (long-after is) valid_s note_s (at_image (MayEnd a.session.application) was on.ends),
              note-sits a.session.application sound_s x valid_s n note_s (found_of f c).image (w.hands c) one.goes.has (suc (max (found_of f c).start.word a.session.minute))
                  (at_image (SitsSince a.session.application (found_of f c).image (w.hands c) one.goes.has (suc (max (found_of f c).start.word a.session.minute))) was on.goes),
            )

    -- as long as it has kept no minute no entry is open
    shut-told : a.held.begun ≡ None → (n : List ℕ) → Y.image ≡ Some n → IsShutAt a.session.application n
    shut-told none n is = by (told-on (IsNote (own_sizes (found_of f c).image)) X Y whole after works run n is)
      where
        by : (x : List ℕ) × (X.image ≡ Some x) × ((n ≡ x) ⊎ IsNote (own_sizes (found_of f c).image) x n) → IsShutAt a.session.application n
        by (x, was, inl same) = subst (IsShutAt a.session.application) (sym same) (at_image (IsShutAt a.session.application) was (one.goes.goes.1 none))
        by (x, was, inr note) =
            note-shut a.session.application (subst IsApplication (sym on.sizes) sound) x (subst (λ (p : Application). IsValid p x) (sym on.sizes) (sound-at x was).1) n (subst (λ (p : Application). IsNote p x n) (sym on.sizes) note)
            (at_image (IsShutAt a.session.application) was (one.goes.goes.1 none))

    pub note-lit : CardLit f w.book (w.standing c) (w.hands c) (w.firsts c) (w.brought c) (Some a) c U Y
    note-lit =
        let rule = of-steps f two c w.book (w.standing c) [] [] U Y (card-noted (both_of f two) c w.book (own_sizes (found_of f c).image) sound whole known run U (w.standing c) [] [] (inr well) holds) in
        record {
          rule = rule;
          valid = valid-all;
          rises = one.rises;
          brought = behind (w.standing c) rule.dark;
          held = held (w.standing c) (λ n. omega arith) (λ n. omega arith);
          hands = hands-behind;
          goes = record {
            has = one.goes.has;
            all = one.goes.all;
            goes = (
              record {
                time = on.time;
                stands = on.stands;
                sizes = on.sizes;
                vehicle = on.vehicle;
                session = if_told Y.image (IsSession a.session) (λ n is. (session-told n is).0);
                ends = if_told Y.image (MayEnd a.session.application) (λ n is. (session-told n is).1);
                goes = if_told Y.image (SitsSince a.session.application (found_of f c).image (w.hands c) one.goes.has (suc (max (found_of f c).start.word a.session.minute))) (λ n is. (session-told n is).2);
              },
              λ none. if_told Y.image (IsShutAt a.session.application) (λ n is. shut-told none n is),
            );
          };
        }

  -- or it failed, and is torn out
  pub note-torn : (floor : ℕ) → CardLit f w.book (Torn on.time a.session.minute floor) (w.hands c) (w.firsts c) (w.brought c) None c U Y
  note-torn floor =
      let rule = of-steps f two c w.book (Torn on.time a.session.minute floor) [] [] U Y (noted-tears (both_of f two) c w.book (own_sizes (found_of f c).image) sound whole known run U on.time a.session.minute floor
      (subst (λ (z : Standing). CardHolds (both_of f two) c w.book z [] [] U X) on.stands holds)) in
      record {
        rule = rule;
        valid = valid-all;
        rises = one.rises;
        brought = behind (Torn on.time a.session.minute floor) rule.dark;
        held = held (Torn on.time a.session.minute floor) (λ n. omega (arith, is n)) (λ n. omega (arith, is n));
        hands = hands-behind;
        goes = record { has = brought_by c (found_of f c).start w.book; all = append-nil (brought_by c (found_of f c).start w.book); goes = tt };
      }
    where
      is : (n : ℕ) → since (w.standing c) n ≡ a.session.minute
      is n = ap (λ (z : Standing). since z n) on.stands

-- ---- so all of it stands, where the card that the call is about is the one with the session

module _ (f : Found) (w : RunLedger) (cards : Cards) (c : Card) (U X Y Z : State) (found : AreFoundCards f cards) (unit_whole : IsCoherent U) (whole : IsCoherent X) (after : IsCoherent Y) (a : Accepted) (value : IsValue a.session) (has : session_of cards c ≡ Some a)
    (p : DevicesPowered f w cards (arranged c U X Z)) (run : LeavesOnly X Y (IsNote (own_sizes (found_of f c).image))) where
  parts : AreParts f w cards c U X Z
  parts = parts-of f w cards c U X Z p

  mine : IsOwnValid (found_of f c).image → CardLit f w.book (w.standing c) (w.hands c) (w.firsts c) (w.brought c) (Some a) c U X
  mine valid = subst (λ (o : Option Accepted). CardLit f w.book (w.standing c) (w.hands c) (w.firsts c) (w.brought c) o c U X) has (parts.mine valid)

  -- one that was not valid has acknowledged nothing
  marks : MarksLit f w c Y
  marks = by (valid-or (found_of f c).image)
    where
      by : IsOwnValid (found_of f c).image ⊎ (IsOwnValid (found_of f c).image → ⊥) → MarksLit f w c Y
      by (inl valid) = note-marks f w c U X Y found.two unit_whole whole after parts.unit (found.sizes c valid) a value (mine valid) run parts.marks_mine
      by (inr bad) = no-marks f c w.book w.marks X Y bad parts.marks_mine

  pub noted-on : X.works ≡ true → Y.works ≡ true → image_size_of (own_sizes (found_of f c).image) ≤ X.size → DevicesPowered f w cards (arranged c U Y Z)
  noted-on works well room = powered-of f w cards c U Y Z found (record {
    unit = parts.unit;
    mine = λ valid. subst (λ (o : Option Accepted). CardLit f w.book (w.standing c) (w.hands c) (w.firsts c) (w.brought c) o c U Y) (sym has)
        (note-lit f w c U X Y found.two unit_whole whole after parts.unit (found.sizes c valid) a value (mine valid) run works well room);
    others = parts.others;
    marks_mine = marks;
    marks_others = parts.marks_others;
  })

  -- or the card failed: it is torn out, and has no session any more
  pub noted-off : (time floor : ℕ) (left : Cards) → AreFoundCards f left → session_of left c ≡ None → session_of left (other c) ≡ session_of cards (other c) → ((valid : IsOwnValid (found_of f c).image) → w.standing c ≡ In time a.session.minute) → DevicesPowered f (with_standing c (Torn time a.session.minute floor) w) left (arranged c U Y Z)
  noted-off time floor left found_left none same stands = powered-of f (with_standing c (Torn time a.session.minute floor) w) left c U Y Z found_left (record {
    unit = record { tells = parts.unit.tells; works = parts.unit.works; unit = parts.unit.unit; none = parts.unit.none };
    mine = λ valid. subst (λ (o : Option Accepted). CardLit f w.book ((with_standing c (Torn time a.session.minute floor) w).standing c) (w.hands c) (w.firsts c) (w.brought c) o c U Y) (sym none)
        (at-card c (Torn time a.session.minute floor) w.standing (λ (z : Standing). CardLit f w.book z (w.hands c) (w.firsts c) (w.brought c) None c U Y) (torn valid));
    others = λ valid. subst (λ (o : Option Accepted). CardLit f w.book ((with_standing c (Torn time a.session.minute floor) w).standing (other c)) (w.hands (other c)) (w.firsts (other c)) (w.brought (other c)) o (other c) U Z) (sym same)
        (at-other c (Torn time a.session.minute floor) w.standing (λ (z : Standing). CardLit f w.book z (w.hands (other c)) (w.firsts (other c)) (w.brought (other c)) (session_of cards (other c)) (other c) U Z) (parts.others valid));
    marks_mine = marks;
    marks_others = parts.marks_others;
  })
    where
      torn : (valid : IsOwnValid (found_of f c).image) → CardLit f w.book (Torn time a.session.minute floor) (w.hands c) (w.firsts c) (w.brought c) None c U Y
      torn valid =
          let on : SessionIsOnCard (found_of f c) (w.hands c) (mine valid).goes.has (w.standing c) a.session X = (mine valid).goes.goes.0 in
          let one = time-of on.time time a.session.minute (sym on.stands ∙ stands valid) in
          subst (λ (t : ℕ). CardLit f w.book (Torn t a.session.minute floor) (w.hands c) (w.firsts c) (w.brought c) None c U Y) one
          (note-torn f w c U X Y found.two unit_whole whole after parts.unit (found.sizes c valid) a value (mine valid) run floor)
