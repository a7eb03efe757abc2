-- What is carried at the end of a run is the theorem.
use Rattle.std.proofs.Common.{◌≡◌, ◌⊎◌, inl, inr, ⊎_elim, ℕ, ◌/◌, ◌<◌, ◌≤◌, true, Option, Some, None, List, [], ◌++◌, All, Contains, refl, ap, subst, ◌∙◌, sym, arith}
use Rattle.std.specs.Prelude.{option_to_list, is_some}
use Rattle.std.proofs.lemmas.List.Elements.{All-contains, Contains-append_left, Contains-append_right, Contains-append_cases}
use Rattle.run_course.specs.activity_codec.declared.entries.Entry.{Entry}
use Rattle.run_course.specs.trace_model.declared.Card.{Card}
use Rattle.run_course.specs.trace_model.declared.Card.TheVariants.{A, B}
use Rattle.tach_media.specs.Medium.{State, IsCoherent}
use Rattle.run_course.specs.log_model.declared.lines.Mark.{Mark}
use Rattle.run_course.specs.log_model.Spans.{AreInOrder}
use Rattle.run_course.specs.log_model.Causes.{device_of}
use Rattle.unit_rule.specs.unit_model.Image.{recorded, unit_minutes, last_kept}
use Rattle.unit_rule.specs.unit_model.Decoding.{Decodes}
use Rattle.tach_media.specs.card_layout.declared.files.Fid.{Fid}
use Rattle.unit_rule.specs.device_rule.View.{CardView}
use Rattle.unit_rule.specs.device_rule.Own.{own_view, own_sizes, own_number, own_bad_file, IsOwnValid, KeepsOf}
use Rattle.run_course.specs.history_model.Minutes.{HistoryMinute, card_history, up_to}
use Rattle.run_course.specs.history_model.Presence.{CardStart}
use Rattle.run_course.specs.history_model.Book.{all, Follows, Rising, IsMark}
use Rattle.run_course.proofs.history_model.Books.{history-append}
use Rattle.unit_rule.specs.device_rule.Views.{UnitView, unit_view, owed}
use Rattle.unit_rule.specs.device_rule.Filling.{FillsDays}
use Rattle.unit_rule.specs.device_rule.Rules.{CardDark, Meets, Had, Shows}
use Rattle.unit_rule.specs.device_rule.Marked.{of_card}
use Rattle.unit_rule.specs.hand_model.ByHand.{by_hand_in}
use Rattle.unit_rule.specs.hand_model.AtStart.{all_at, hands_at, HasDayOf}
use Rattle.unit_rule.proofs.hand_model.Written.{part_self, part_both, part_then}
use Rattle.unit_rule.specs.safety_model.ByHand.{HandsSafe}
use Rattle.unit_rule.specs.safety_model.Hands.{hands_done}
use Rattle.unit_rule.specs.Recording.{Recording, card_image, brought, start_of, history_of, lost_of, told_of, unit_seen as seen_in}
use Rattle.unit_rule.specs.Unit.{UnitSafe, marks_of, issued_bytes}
use Rattle.unit_rule.specs.Cards.{CardSafe, IsRepaired, Agree, StandsInUnit, HasDay, expected_to}
use Rattle.unit_rule.specs.Safe.{Devices, card_of, IsSafe}
use Rattle.unit_rule.specs.Rule.{Started}
use Rattle.unit_rule.proofs.Marking.{holds-dark}
use Rattle.unit_rule.proofs.Safety.{unit-safe}
use Rattle.unit_rule.specs.tacho_types.declared.texts.Registration.{Registration}
use Rattle.run_promise.specs.Found.{CardFound, Found, found_of, unit_seen, AnyKept, registration_of}
use Rattle.run_promise.specs.Cards.{StringHolds, StringGoesOn, CardWaits, IsCardHeld, IsFirstHeld, HandMarksHold, counted_to, brought_by}
use Rattle.run_promise.specs.Between.{RunLedger, LedgerStandsPowered, LedgerStands, IsFound, IsFollowed, HandsFollowed, AreBrought, AreUntouched}
use Rattle.run_promise.proofs.CardEnd.{at_start, shows, marked, repaired, rest-agrees, started as started-start}
use Rattle.run_promise.proofs.Beyond.{follows-later}
use Rattle.run_promise.proofs.Present.{bound, history-later}
use Rattle.run_promise.proofs.Behind.{said-by, counted-in, kept-within, own-marked, owed-until, rising-above, mark-above, stands-there}

same-card : (g : CardFound) (image number : List ℕ) (start : CardStart) (began : ℕ) (vehicle : Registration) → g.image ≡ image → g.start ≡ start → g.number ≡ number → g.began ≡ began → g.vehicle ≡ vehicle
    → g ≡ record { image = image; start = start; number = number; began = began; vehicle = vehicle }
same-card g image number start began vehicle a b c d e =
    ap (λ (i : List ℕ). record { image = i; start = g.start; number = g.number; began = g.began; vehicle = g.vehicle }) a
    ∙ ap (λ (s : CardStart). record { image = image; start = s; number = g.number; began = g.began; vehicle = g.vehicle }) b
    ∙ ap (λ (n : List ℕ). record { image = image; start = start; number = n; began = g.began; vehicle = g.vehicle }) c
    ∙ ap (λ (k : ℕ). record { image = image; start = start; number = number; began = k; vehicle = g.vehicle }) d
    ∙ ap (λ (v : Registration). record { image = image; start = start; number = number; began = began; vehicle = v }) e

told-image : (o : Option (List ℕ)) → is_some o ≡ true → (x : List ℕ) × (o ≡ Some x)
told-image None is = absurd (cc)
told-image (Some x) is = (x, refl)

valid-or : (x : List ℕ) → IsOwnValid x ⊎ (IsOwnValid x → ⊥)
valid-or x = go (own_bad_file x) refl
  where
    go : (o : Option (Fid × ℕ)) → own_bad_file x ≡ o → IsOwnValid x ⊎ (IsOwnValid x → ⊥)
    go None is = inl is
    go (Some bad) is = inr (λ none. cc)

last-of : (a b u : List ℕ) → (unit_view a b u).last ≡ last_kept u
unfolding unit_view
last-of a b u = refl

days-of : (a b u : List ℕ) → (unit_view a b u).days ≡ recorded u
unfolding unit_view
days-of a b u = refl

owed-a : (a b d u : List ℕ) (y : CardView) → owed A (unit_view a b u) y ≡ owed A (unit_view a d u) y
unfolding unit_view
owed-a a b d u y = refl

owed-b : (a b d u : List ℕ) (y : CardView) → owed B (unit_view a b u) y ≡ owed B (unit_view d b u) y
unfolding unit_view
owed-b a b d u y = refl

module _ (r : Recording) (f : Found) (w : RunLedger) (began now : Devices) (found : IsFound r f began) (followed : IsFollowed r w.book now.unit) (carried : LedgerStands f w now)
    (hands : (c : Card) → IsOwnValid (card_image r c) → HandsFollowed r c (w.hands c) (w.firsts c) w.marks) (unit_whole : IsCoherent now.unit) (card_whole : (c : Card) → IsCoherent (card_of now c)) where
  unit-part : UnitSafe (recorded r.unit) (history_of r) (lost_of r) w.marks began.unit.clock now.unit
  unit-part = subst (λ (s : Started). UnitSafe s.days (history_of r) (lost_of r) w.marks s.began now.unit) found.unit
      (unit-safe f.unit (history_of r) (lost_of r) w.due w.book w.marks now.unit unit_whole followed.follows carried.unit)

  issued-part : (x : List ℕ) → now.unit.left_since began.unit.clock x → issued_bytes x ≡ issued_bytes r.unit
  issued-part = subst (λ (s : Started). (x : List ℕ) → now.unit.left_since s.began x → issued_bytes x ≡ s.issued) found.unit carried.unit.issued

  abbrev rest : List HistoryMinute
  rest = followed.follows.front.0

  whole : history_of r ≡ all w.book ++ rest
  whole = followed.follows.front.1

  -- an image of the unit
  abbrev view : List ℕ → UnitView
  view u = unit_view f.card_a.number f.card_b.number u

  unit-shows : (u : List ℕ) → now.unit.may_leave u → Shows (FillsDays f.unit.days) f.unit.first w.book (view u)
  unit-shows u on = (carried.unit.unit_holds f.card_a.number f.card_b.number).now (view u) (u, on, refl)

  some-unit : (u : List ℕ) × now.unit.may_leave u
  some-unit = let x = told-image now.unit.image carried.tells in (x.0, unit_whole.is_left x.0 x.1)

  module _ (c : Card) (valid : IsOwnValid (card_image r c)) where
    abbrev clock : ℕ
    clock = (card_of began c).clock

    abbrev card : State
    card = card_of now c

    same : found_of f c ≡ at_start r c clock
    same = same-card (found_of f c) (card_image r c) (own_number (card_image r c)) (brought r c) clock (registration_of r.unit) (found.image c) (found.start c) (found.number c valid) (found.clock c) (found.vehicle c)

    waits : CardWaits f (w.hands c) c w.book (w.standing c) (w.brought c) now.unit card
    waits = carried.cards c (subst IsOwnValid (sym (found.image c)) valid)

    string : StringHolds (at_start r c clock) (w.hands c) c w.book card
    string = subst (λ (g : CardFound). StringHolds g (w.hands c) c w.book card) same waits.string

    firsts : HandMarksHold (at_start r c clock) (w.hands c) (w.firsts c) card
    firsts = subst (λ (g : CardFound). HandMarksHold g (w.hands c) (w.firsts c) card) same (carried.hands c (subst IsOwnValid (sym (found.image c)) valid))

    rests : CardDark c (brought r c) AnyKept clock w.book (w.standing c) (unit_seen f now.unit) (of_card card)
    rests = subst (λ (g : CardFound). CardDark c g.start AnyKept g.began w.book (w.standing c) (unit_seen f now.unit) (of_card card)) same waits.rests

    held : All (IsCardHeld (at_start r c clock) c w.book card) (marks_of (device_of c) w.marks)
    held = subst (λ (g : CardFound). All (IsCardHeld g c w.book card) (marks_of (device_of c) w.marks)) same (carried.marks c).held

    same-owed : (u : List ℕ) (y : CardView) → owed c (view u) y ≡ owed c (seen_in r u) y
    same-owed u y = go c (found.number c valid)
      where
        go : (d : Card) → (found_of f d).number ≡ own_number (card_image r d) → owed d (view u) y ≡ owed d (seen_in r u) y
        go A is = ap (λ (n : List ℕ). owed A (unit_view n f.card_b.number u) y) is ∙ owed-a (own_number r.card_a) f.card_b.number (own_number r.card_b) u y
        go B is = ap (λ (n : List ℕ). owed B (unit_view f.card_a.number n u) y) is ∙ owed-b f.card_a.number (own_number r.card_b) (own_number r.card_a) u y

    module _ (u x : List ℕ) (on : now.unit.may_leave u) (there : card.may_leave x) where
      meets : Meets c (brought r c) AnyKept (all w.book) (w.standing c) (view u) (own_view x)
      meets = rests.meets (view u) (own_view x) (u, on, refl) (x, there, refl)

      left : card.left_since clock x
      left = (card_whole c).counts_now clock x rests.later there

      had : Had c (brought r c) AnyKept w.book (own_view x)
      had = rests.since (own_view x) (x, left, refl)

      rest-later : All (λ i. (view u).last < i.minute) rest
      rest-later = subst (λ (k : ℕ). All (λ (i : HistoryMinute). k < i.minute) rest) (sym (last-of f.card_a.number f.card_b.number u)) (followed.later u on)

      rest-part : KeepsOf (card_image r c) (hands_done r c) (expected_to r c (last_kept u)) (record (own_view x).held { entries = (own_view x).held.entries ++ owed c (seen_in r u) (own_view x) })
      rest-part =
          subst (λ (es : List Entry). KeepsOf (card_image r c) (hands_done r c) (expected_to r c (last_kept u)) (record (own_view x).held { entries = (own_view x).held.entries ++ es })) (same-owed u (own_view x))
          (subst (λ (k : ℕ). KeepsOf (card_image r c) (hands_done r c) (expected_to r c k) (record (own_view x).held { entries = (own_view x).held.entries ++ owed c (view u) (own_view x) })) (last-of f.card_a.number f.card_b.number u)
          (rest-agrees r c clock (w.hands c) (hands c valid).given w.book card rest whole string (w.standing c) (view u) x meets had (unit-shows u on).sure (found.days c valid) rest-later
          (subst (λ (g : CardFound). StringGoesOn g (w.hands c).given c w.book (w.standing c) (owed c (view u) (own_view x)) x) same (waits.comes u x on there))))

      -- the book's minutes rise behind the unit's last-kept one at the start
      rising : Rising (last_kept r.unit) (all w.book)
      rising = subst (λ (s : Started). Rising s.first (all w.book)) found.unit (carried.unit.unit_holds f.card_a.number f.card_b.number).order.now.rising

      first-low : last_kept r.unit ≤ (view u).last
      first-low = mark-above (last_kept r.unit) (all w.book) (view u).last rising
          (subst (λ (s : Started). IsMark s.first (all w.book) (view u).last) found.unit (unit-shows u on).mark)

      -- each minute of the history is later than the unit's last-kept one at the start
      history-above : (i : HistoryMinute) → Contains (history_of r) i → last_kept r.unit < i.minute
      history-above i at = ⊎_elim
          (λ here. All-contains (λ (j : HistoryMinute). last_kept r.unit < j.minute) (all w.book) i (rising-above (last_kept r.unit) (all w.book) rising) here)
          (λ later. let lt : (view u).last < i.minute = All-contains (λ (j : HistoryMinute). (view u).last < j.minute) rest i rest-later later in omega (arith, lt, first-low))
          (Contains-append_cases (all w.book) rest i (subst (λ (is : List HistoryMinute). Contains is i) whole at))

      -- an entry of the history that the card holds is one of a sure minute
      sure-one : (e : Entry) → Contains (card_history c (history_of r)) e → Contains (own_view x).held.entries e → Contains (card_history c w.book.sure) e
      sure-one e said at =
          let late : bound (brought r c) < e.minute = All-contains (λ (d : Entry). bound (brought r c) < d.minute) (card_history c (history_of r)) e
          (subst (λ (s : CardStart). All (λ (d : Entry). bound s < d.minute) (card_history c (history_of r))) (started-start r c) (history-later r.rule (start_of r) r.log (told_of r) c)) said in
          let low : e.minute ≤ (own_view x).mark = All-contains (λ (d : Entry). d.minute ≤ (own_view x).mark) (own_view x).held.entries e (own-marked x) at in
          ⊎_elim
          (λ old. absurd (let le : e.minute ≤ (brought r c).mark = All-contains (λ (d : Entry). d.minute ≤ (brought r c).mark) (brought r c).entries e (own-marked (card_image r c)) old in omega (arith, late, le)))
          (λ counted. ⊎_elim
          (λ owed_one. absurd (
          let le : e.minute ≤ (seen_in r r.unit).last = All-contains (λ (d : Entry). d.minute ≤ (seen_in r r.unit).last) (brought r c).owed e (owed-until c (seen_in r r.unit) (own_view (card_image r c))) owed_one in
          let one = said-by r c (history_of r) e said in
          omega (arith, le, last-of (own_number r.card_a) (own_number r.card_b) r.unit, one.2.0, history-above one.0 one.1)))
          (λ book_one. ⊎_elim
          (λ sure. sure)
          (λ maybe. absurd (let lt : (own_view x).mark < e.minute = All-contains (λ (d : Entry). (own_view x).mark < d.minute) (had.rest ++ card_history c (option_to_list w.book.maybe)) e had.lacks
          (Contains-append_right had.rest (card_history c (option_to_list w.book.maybe)) e maybe) in omega (arith, lt, low)))
          (Contains-append_cases (card_history c w.book.sure) (card_history c (option_to_list w.book.maybe)) e (subst (λ (zs : List Entry). Contains zs e) (history-append c w.book.sure (option_to_list w.book.maybe)) book_one)))
          (Contains-append_cases (brought r c).owed (card_history c (all w.book)) e (counted-in (own_view x).mark (brought_by c (brought r c) w.book) e counted).0))
          (Contains-append_cases (brought r c).entries (counted_to (own_view x).mark (brought_by c (brought r c) w.book)) e
          (kept-within (card_image r c) (w.hands c).given ((brought r c).entries ++ counted_to (own_view x).mark (brought_by c (brought r c) w.book)) x e (string.kept x left) at))

      behind-part : Decodes r.unit → (e : Entry) → Contains (card_history c (history_of r)) e → Contains (own_view x).held.entries e → HasDay r c (recorded u) (e.minute / 1440) → StandsInUnit r c (unit_minutes u) e
      behind-part decodes e said at day =
          let one = said-by r c w.book.sure e (sure-one e said at) in
          let shows_ = unit-shows u on in
          let le : one.0.minute ≤ (view u).last = All-contains (λ (i : HistoryMinute). i.minute ≤ (view u).last) w.book.sure one.0 shows_.sure one.1 in
          stands-there r c r.unit u decodes shows_.next (all w.book) (view u).last rising
          (subst (λ (s : Started). FillsDays s.days shows_.next (up_to (view u).last (all w.book)) (recorded u)) found.unit (subst (FillsDays f.unit.days shows_.next (up_to (view u).last (all w.book))) (days-of f.card_a.number f.card_b.number u) shows_.days))
          one.0 e (Contains-append_left w.book.sure (option_to_list w.book.maybe) one.0 one.1) one.2 le day

      pub card-agrees : Decodes r.unit → Agree r c u x
      card-agrees decodes = record { behind = behind-part decodes; rest = rest-part }

    pub card-repaired : AreBrought r c w.book (w.brought c) → (x : List ℕ) → card.may_leave x → IsRepaired r c w.marks x
    card-repaired each x there =
        repaired r c clock (w.hands c) (hands c valid).given w.book card rest whole string (w.standing c) (w.brought c) (unit_seen f now.unit) rests waits.brought (view some-unit.0) (some-unit.0, some-unit.1, refl) (unit-shows some-unit.0 some-unit.1).sure each x there
        w.marks held (history-above some-unit.0 x some-unit.1 there) owed-low (first-low some-unit.0 x some-unit.1 there) (rest-later some-unit.0 x some-unit.1 there) (card_whole c)
      where
        owed-low : All (λ e. e.minute ≤ last_kept r.unit) (brought r c).owed
        owed-low = subst (λ (k : ℕ). All (λ (e : Entry). e.minute ≤ k) (brought r c).owed) (last-of (own_number r.card_a) (own_number r.card_b) r.unit) (owed-until c (seen_in r r.unit) (own_view (card_image r c)))

  -- each card
  none-in : (m : Mark) (marks : List Mark) → marks ≡ [] → Contains marks m → ⊥
  none-in m marks is at = let none : Contains {X = Mark} [] m = subst (λ (ms : List Mark). Contains ms m) is at in omega (arith, none.1)

  -- a card that is not valid has none
  unmarked : (c : Card) → (IsOwnValid (card_image r c) → ⊥) → marks_of (device_of c) w.marks ≡ []
  unmarked c bad = (carried.marks c).none (λ valid. bad (subst IsOwnValid (found.image c) valid))

  card-part : ((c : Card) → IsOwnValid (card_image r c) → AreBrought r c w.book (w.brought c)) → AreUntouched r f now → (c : Card) → CardSafe r c w.marks (card_of began c).clock (card_of now c)
  card-part each untouched c = record {
    entries = λ valid x at. (shows r c (card_of began c).clock (w.hands c) (hands c valid).given w.book (card_of now c) rest whole (string c valid) x at).0;
    valid = λ valid x at. (string c valid).valid x at;
    number = λ valid x at. (string c valid).number x at;
    untouched = λ never x at. untouched c never x (subst (λ (n : ℕ). (card_of now c).left_since n x) (sym (found.clock c)) at) ∙ found.image c;
    in_order = (carried.marks c).rise;
    marked = λ m at. ⊎_elim
        (λ valid. marked r c (card_of began c).clock (w.hands c) (hands c valid).given w.book (card_of now c) rest whole (string c valid) (card_whole c) m (All-contains (IsCardHeld (at_start r c (card_of began c).clock) c w.book (card_of now c)) (marks_of (device_of c) w.marks) m (held c valid) at))
        (λ bad. absurd (none-in m (marks_of (device_of c) w.marks) (unmarked c bad) at))
        (valid-or (card_image r c));
    unmarked = unmarked c;
    repaired = λ valid x there. card-repaired c valid (each c valid) x there;
  }

  -- its entries by hand: each image tells some of those that it may tell, and those of an acknowledged first keep where it has their day
  hands-part : (c : Card) → HandsSafe r c w.marks (card_of began c).clock (card_of now c)
  hands-part c = record {
    tells = λ valid x at.
        part_then (by_hand_in (own_sizes (card_image r c)) x) (hands_at (card_image r c) ++ (w.hands c).given) (hands_at (card_image r c) ++ hands_done r c) ((string c valid).told x at)
        (part_both (hands_at (card_image r c)) (hands_at (card_image r c)) (w.hands c).given (hands_done r c) (part_self (hands_at (card_image r c))) (hands c valid).given);
    stay = λ valid x at. (string c valid).stay x at;
    behind = λ valid x at none.
        part_then (all_at x) (hands_at (card_image r c) ++ (w.hands c).given) (hands_at (card_image r c) ++ hands_done r c) ((string c valid).behind x at none)
        (part_both (hands_at (card_image r c)) (hands_at (card_image r c)) (w.hands c).given (hands_done r c) (part_self (hands_at (card_image r c))) (hands c valid).given);
    keeps = λ valid s next m first e of_it day x left has.
        let k = (hands c valid).firsts s next m first in
        let held : IsFirstHeld (at_start r c (card_of began c).clock) (w.hands c) (card_of now c) k.0 = All-contains (IsFirstHeld (at_start r c (card_of began c).clock) (w.hands c) (card_of now c)) (w.firsts c) k.0 (firsts c valid) k.1 in
        All-contains (Contains (by_hand_in (own_sizes (card_image r c)) x)) k.0.hands e
        (held.told x (subst (λ (n : Mark). (card_of now c).left_since n.clock x) (sym k.2) left) (subst (λ (n : Mark). HasDayOf n.minute (own_sizes (card_image r c)) x) (sym k.2) has)) (k.3 e of_it day);
  }

  -- THE THEOREM
  pub safe-end : Decodes r.unit → ((c : Card) → IsOwnValid (card_image r c) → AreBrought r c w.book (w.brought c)) → AreUntouched r f now → IsSafe r w.marks began now
  safe-end decodes each untouched = record {
    unit = unit-part;
    issued = issued-part;
    card = card-part each untouched;
    both = λ c u x valid on there. card-agrees c valid u x on there decodes;
    hands = hands-part;
  }

-- the book follows the history, and so what is beyond it is later
pub safe-followed : (r : Recording) (f : Found) (w : RunLedger) (began now : Devices) → IsCoherent now.unit → ((c : Card) → IsCoherent (card_of now c)) → Decodes r.unit → (from : ℕ) → AreInOrder from r.trace → last_kept r.unit < from / 60 →
    IsFound r f began → Follows (history_of r) (lost_of r) w.book → LedgerStands f w now → ((c : Card) → IsOwnValid (card_image r c) → HandsFollowed r c (w.hands c) (w.firsts c) w.marks) → ((c : Card) → IsOwnValid (card_image r c) → AreBrought r c w.book (w.brought c)) → AreUntouched r f now → IsSafe r w.marks began now
safe-followed r f w began now unit_whole card_whole decodes from order early found follows carried hands each untouched =
    safe-end r f w began now found
    (follows-later r w.book now.unit from (last_kept r.unit) order early follows
    (λ u on. subst (λ (k : ℕ). IsMark (last_kept r.unit) (all w.book) k) (last-of f.card_a.number f.card_b.number u)
    (subst (λ (s : Started). IsMark s.first (all w.book) (unit_view f.card_a.number f.card_b.number u).last) found.unit ((carried.unit.unit_holds f.card_a.number f.card_b.number).now (unit_view f.card_a.number f.card_b.number u) (u, on, refl)).mark)))
    carried hands unit_whole card_whole decodes each untouched

-- while the unit has power the same is carried
pub lit-carried : (f : Found) (w : RunLedger) (d : Devices) → LedgerStandsPowered f w d → LedgerStands f w d
lit-carried f w d lit = record {
  tells = lit.tells;
  unit = holds-dark f.unit w.due w.book w.marks d.unit lit.unit;
  cards = λ c valid. let s = lit.cards c valid in record { rests = s.holds.dark; string = s.string; comes = s.comes; brought = s.brought };
  marks = lit.marks;
  hands = lit.hands;
}
