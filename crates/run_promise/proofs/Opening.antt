-- What the opening finds of the cards is carried.
use Rattle.std.proofs.Common.{◌≡◌, inl, inr, ⊎_elim, ℕ, ◌/◌, ◌<◌, ◌≤◌, Bool, true, false, cond, Option, Some, None, List, [], ◌∷◌, ◌++◌, Contains, refl, ap, subst, ◌∙◌, sym, arith, nat_le}
use Rattle.std.specs.Prelude.{is_some}
use Rattle.std.proofs.lemmas.Bool.Decides.{nat_tests}
use Rattle.std.proofs.lemmas.List.{append-nil}
use Rattle.std.proofs.lemmas.List.Elements.{All-nil, All-weaker, Contains-append_cases, Contains-push_cases}
use Rattle.run_course.specs.activity_codec.declared.entries.Entry.{Entry}
use Rattle.run_course.specs.activity_codec.declared.entries.Manual.{Manual}
use Rattle.run_course.specs.trace_model.declared.Card.{Card}
use Rattle.tach_media.specs.Medium.{State, IsCoherent}
use Rattle.unit_rule.specs.card_model.Days.{AreDays}
use Rattle.unit_rule.specs.card_retention.Expected.{WordDay, is_closed, closes, counted, more}
use Rattle.unit_rule.specs.card_retention.ByHand.{and_by_hand}
use Rattle.unit_rule.specs.card_retention.Shown.{Covers, InDays, AllFrom}
use Rattle.unit_rule.specs.card_retention.Retains.{Rise, entries_from}
use Rattle.unit_rule.specs.device_rule.Fields.{card_days}
use Rattle.unit_rule.specs.device_rule.View.{card_view}
use Rattle.unit_rule.specs.device_rule.Own.{own_view, own_sizes, own_number, own_covered, counted_view, expected_with, KeepsFrom, KeepsOf, IsOwnValid}
use Rattle.unit_rule.specs.hand_model.AtStart.{marked_at, all_at, hands_at, StaysTold}
use Rattle.unit_rule.specs.hand_model.ByHand.{by_hand_in}
use Rattle.unit_rule.specs.hand_model.Written.{IsPartOf, no_hands}
use Rattle.unit_rule.proofs.hand_model.Cuts.{part_first}
use Rattle.unit_rule.proofs.hand_model.Written.{part_wider}
use Rattle.run_course.specs.history_model.Presence.{CardStart, trimmed_by}
use Rattle.run_course.specs.history_model.Book.{not_begun}
use Rattle.run_course.proofs.history_model.Books.{history-none}
use Rattle.run_course.proofs.history_model.Filters.{filter-none}
use Rattle.unit_rule.specs.device_rule.Views.{UnitView, unit_view, owed}
use Rattle.unit_rule.specs.device_rule.Rules.{Brings, CardDark, Out, comes_from}
use Rattle.unit_rule.specs.device_rule.Marked.{of_card}
use Rattle.unit_rule.proofs.device_rule.Brought.{brought-newest, brought-bound}
use Rattle.unit_rule.proofs.device_rule.Pairs.{owed-above}
use Rattle.unit_rule.proofs.device_rule.Opening.{opened-card}
use Rattle.unit_rule.specs.unit_model.Image.{last_kept}
use Rattle.unit_rule.specs.unit_model.Decoding.{Decodes}
use Rattle.unit_rule.specs.Safe.{Devices, card_of}
use Rattle.unit_rule.specs.Rule.{Started, started}
use Rattle.unit_rule.specs.Marks.{UnitFollowsBook}
use Rattle.unit_rule.proofs.Marking.{holds-started}
use Rattle.run_promise.specs.Found.{CardFound, Found, found_of, unit_seen, AnyKept}
use Rattle.run_promise.specs.Cards.{brought_by, counted_to, StringHolds, StringGoesOn, CardWaits, IsCardHeld, IsFirstHeld}
use Rattle.run_promise.specs.Between.{LedgerStands}
use Rattle.run_promise.specs.Opening.{BeginsAs, as_found, IsLookedAt, carried_first}
use Rattle.run_promise.proofs.Entries.{keeps-later}
use Rattle.run_promise.proofs.Behind.{own-marked}
use Rattle.run_promise.proofs.OwedRises.{owed-rises}

-- THE STRING OF AN IMAGE keeps its own entries, wherever the next one comes
covers-same : (days : List WordDay) → Covers days days
covers-same [] = tt
covers-same (d ∷ days) = inl (record { day = refl; words = omega arith }, covers-same days)

covers-more : (days : List WordDay) → Covers (more days) days
covers-more [] = tt
covers-more (d ∷ []) = inl (record { day = refl; words = omega arith }, tt)
covers-more (d ∷ e ∷ days) = inl (record { day = refl; words = omega arith }, covers-more (e ∷ days))

covers-closed : (covered : ℕ) (p : Option Entry) (next : ℕ) (days : List WordDay) → Covers (closes covered p next days) days
covers-closed covered None next days = covers-same days
covers-closed covered (Some p) next days = go (is_closed covered p next)
  where
    go : (b : Bool) → Covers (cond b (more days) days) days
    go true = covers-more days
    go false = covers-same days

all-from : (days : List WordDay) → AllFrom 0 days
all-from [] = tt
all-from (d ∷ days) = (omega arith, all-from days)

entries-all : (es : List Entry) → es ≡ entries_from 0 es
entries-all [] = refl
entries-all (e ∷ es) = ap (λ (zs : List Entry). e ∷ zs) (entries-all es) ∙ ap (λ (b : Bool). cond b (e ∷ entries_from 0 es) (entries_from 0 es)) (sym (low (e.minute / 1440)))
  where
    low : (n : ℕ) → nat_le 0 n ≡ true
    low n = grind (arith, nat_tests)

in-days : (days : List WordDay) (d : WordDay) → Contains days d → InDays d.day days
in-days [] d at = absurd (omega (arith, at.1))
in-days (g ∷ days) d at = ⊎_elim
    (λ first. ⊎_elim (λ none. absurd (omega (arith, none.1))) (λ is. inl (ap (λ (w : WordDay). w.day) is)) (Contains-push_cases [] g d first))
    (λ later. inr (in-days days d later))
    (Contains-append_cases (g ∷ []) days d at)

expected-start : (image : List ℕ) (n : ℕ) → Covers (expected_with image n []) (own_view image).held.days
unfolding expected_with counted
expected-start image n = covers-closed (own_covered image) (counted_view (own_view image)).before n (own_view image).held.days

-- whatever entries by hand are words more
covers-hands : (given : List Manual) (ws ds : List WordDay) → Covers ws ds → Covers (and_by_hand given ws) ds
covers-hands given ws [] c = tt
covers-hands given [] (d ∷ ds) c = absurd c
covers-hands given (w ∷ ws) (d ∷ ds) c = ⊎_elim
    (λ m. inl (record { day = m.0.day; words = omega (arith, m.0.words) }, covers-hands given ws ds m.1))
    (λ m. inr (covers-hands given ws (d ∷ ds) m)) c

pub keeps-start : (image : List ℕ) (given : List Manual) → KeepsFrom image given 0 (own_view image).held.entries (own_view image).held
keeps-start image given = record {
  more = [];
  begins = sym (append-nil (own_view image).held.entries);
  keeps = λ n le. (
    record {
      gone = [];
      there = and_by_hand given (expected_with image n []);
      split = refl;
      covers = inl (covers-hands given (expected_with image n []) (own_view image).held.days (expected-start image n));
      full = tt;
      some = λ none. refl;
      oldest = 0;
      low = tt;
      high = all-from (and_by_hand given (expected_with image n []));
      none = λ none. refl;
      entries = entries-all (own_view image).held.entries;
    },
    λ d at until oldest. in-days (own_view image).held.days d at,
  );
}

-- and tells the entries by hand up to its end mark
pub own-told : (x : List ℕ) → IsPartOf (by_hand_in (own_sizes x) x) (hands_at x ++ [])
unfolding by_hand_in own_view card_view
own-told x = part_wider (marked_at x) (hands_at x) [] (part_first x (marked_at x) (inl refl))

-- and those behind it, where no session is open
pub own-all : (x : List ℕ) → (own_view x).session ≡ 0 → IsPartOf (all_at x) (hands_at x ++ [])
own-all x none = part_wider (all_at x) (hands_at x) [] (part_first x (all_at x) (inr (none, refl)))

-- and so those of the start stay
pub own-stays : (x : List ℕ) → StaysTold x (own_sizes x) x
unfolding by_hand_in own_view card_view
own-stays x e marked day = marked

-- WHAT IT BRINGS
own-newest : (x : List ℕ) (start : CardStart) → start.mark ≡ (own_view x).mark → AreDays 0 (card_days (own_sizes x) x) → (own_view x).newest ≡ trimmed_by start (own_view x).held.entries
unfolding own_view
own-newest x start mark are = brought-newest (own_sizes x) x start mark are

own-bound : (x : List ℕ) → AreDays 0 (card_days (own_sizes x) x) → (own_view x).mark ≤ (own_view x).newest
unfolding own_view
own-bound x are = brought-bound (own_sizes x) x (record { entries = []; owed = []; mark = (card_view (own_sizes x) x).mark; word = 0 }) refl are

pub looked-brings : (c : Card) (u : UnitView) (x : List ℕ) → AreDays 0 (card_days (own_sizes x) x) → Brings AnyKept c (as_found c u x) u (own_view x)
looked-brings c u x are = record {
  entries = refl;
  owed = refl;
  mark = refl;
  word = refl;
  kept = tt;
  marked = own-marked x;
  bound = own-bound x are;
  newest = own-newest x (as_found c u x) refl are;
}

-- A DEVICE THAT BEGINS with one image leaves that alone
leaves-one : (x : List ℕ) (s : State) → IsCoherent s → BeginsAs x s → (y : List ℕ) → s.may_leave y → y ≡ x
leaves-one x s whole begins y there = begins.only y (whole.counts_now s.clock y (omega arith) there)

module _ (f : Found) (c : Card) (u x : List ℕ) (unit card : State) (unit_whole : IsCoherent unit) (card_whole : IsCoherent card) (unit_begins : BeginsAs u unit) (card_begins : BeginsAs x card)
    (looked : IsLookedAt f c u x card.clock) where
  abbrev view : UnitView
  view = unit_view f.card_a.number f.card_b.number u

  abbrev g : CardFound
  g = found_of f c

  brings : Brings AnyKept c g.start view (own_view x)
  brings = subst (λ (start : CardStart). Brings AnyKept c start view (own_view x)) (sym looked.start) (looked-brings c view x looked.days)

  dark : CardDark c g.start AnyKept g.began not_begun Out (unit_seen f unit) (of_card card)
  dark = subst (λ (n : ℕ). CardDark c g.start AnyKept n not_begun Out (unit_seen f unit) (of_card card)) (sym looked.began)
      (opened-card c g.start AnyKept (unit_seen f unit) (of_card card) view (own_view x)
      (λ v on. sym on.2 ∙ ap (unit_view f.card_a.number f.card_b.number) (leaves-one u unit unit_whole unit_begins on.0 on.1))
      (λ y there. sym there.2 ∙ ap own_view (leaves-one x card card_whole card_begins there.0 there.1))
      (λ y left. sym left.2 ∙ ap own_view (card_begins.only left.0 left.1)) brings)

  -- nothing is counted yet beside the entries at the start
  none-said : brought_by c g.start not_begun ≡ g.start.owed
  none-said = ap (λ (es : List Entry). g.start.owed ++ es) (history-none c) ∙ append-nil g.start.owed

  owes : g.start.owed ≡ owed c view (own_view x)
  owes = ap (λ (start : CardStart). start.owed) looked.start

  late : (k m : ℕ) → k < m → nat_le m k ≡ false
  late k m h = grind (arith, nat_tests)

  none-counted : counted_to (own_view x).mark (brought_by c g.start not_begun) ≡ []
  none-counted = ap (counted_to (own_view x).mark) (none-said ∙ owes)
      ∙ filter-none (λ (e : Entry). nat_le e.minute (own_view x).mark) (owed c view (own_view x))
      (All-weaker (λ (e : Entry). (own_view x).mark < e.minute) (λ e. nat_le e.minute (own_view x).mark ≡ false) (λ e h. late (own_view x).mark e.minute h) (owed c view (own_view x)) (owed-above c view (own_view x)))

  keeps : KeepsFrom g.image [] 0 (g.start.entries ++ counted_to (own_view x).mark (brought_by c g.start not_begun)) (own_view x).held
  keeps = subst (λ (image : List ℕ). KeepsFrom image [] 0 (g.start.entries ++ counted_to (own_view x).mark (brought_by c g.start not_begun)) (own_view x).held) (sym looked.image)
      (subst (λ (es : List Entry). KeepsFrom x [] 0 es (own_view x).held)
      (sym (append-nil (own_view x).held.entries) ∙ ap (λ (start : CardStart). start.entries ++ []) (sym looked.start) ∙ ap (λ (es : List Entry). g.start.entries ++ es) (sym none-counted)) (keeps-start x []))

  string : IsOwnValid x → StringHolds g no_hands c not_begun card
  string valid = record {
    kept = λ y left. subst (λ (z : List ℕ). KeepsOf g.image [] (g.start.entries ++ counted_to (own_view z).mark (brought_by c g.start not_begun)) (own_view z).held) (sym (since y left)) (0, keeps);
    told = λ y left. subst (λ (z : List ℕ). IsPartOf (by_hand_in (own_sizes g.image) z) (hands_at g.image ++ [])) (sym (since y left))
        (subst (λ (image : List ℕ). IsPartOf (by_hand_in (own_sizes image) x) (hands_at image ++ [])) (sym looked.image) (own-told x));
    behind = λ y left. subst (λ (z : List ℕ). (own_view z).session ≡ 0 → IsPartOf (all_at z) (hands_at g.image ++ [])) (sym (since y left))
        (subst (λ (image : List ℕ). (own_view x).session ≡ 0 → IsPartOf (all_at x) (hands_at image ++ [])) (sym looked.image) (own-all x));
    stay = λ y left. subst (λ (z : List ℕ). StaysTold g.image (own_sizes g.image) z) (sym (since y left)) (subst (λ (image : List ℕ). StaysTold image (own_sizes image) x) (sym looked.image) (own-stays x));
    valid = λ y left. subst IsOwnValid (sym (since y left)) valid;
    sizes = λ y left. ap own_sizes (since y left ∙ sym looked.image);
    number = λ y left. ap own_number (since y left ∙ sym looked.image);
    rises = subst Rise (sym (none-said ∙ owes)) (owed-rises c f.card_a.number f.card_b.number u (own_view x));
  }
    where
      since : (y : List ℕ) → card.left_since g.began y → y ≡ x
      since y left = card_begins.only y (subst (λ (n : ℕ). card.left_since n y) looked.began left)

  pub found-waits : IsOwnValid x → CardWaits f no_hands c not_begun Out [] unit card
  found-waits valid = record {
    rests = dark;
    string = string valid;
    comes = λ v y on there.
        let due = owed c (unit_view f.card_a.number f.card_b.number v) (own_view x) in
        subst (λ (z : List ℕ). StringGoesOn g [] c not_begun Out (owed c (unit_view f.card_a.number f.card_b.number v) (own_view z)) z) (sym (leaves-one x card card_whole card_begins y there))
        (keeps-later g.image [] 0 (comes_from g.start Out due (own_view x)) (g.start.entries ++ counted_to (own_view x).mark (brought_by c g.start not_begun)) (own_view x).held (omega arith) keeps);
    brought = λ k in_. absurd (omega (arith, in_.1));
  }

-- THE OPENING
started-holds : (f : Found) (u : List ℕ) (due : ℕ) (unit : State) → IsCoherent unit → BeginsAs u unit → Decodes u → last_kept u < due → f.unit ≡ started u f.unit.number_a f.unit.number_b unit.clock → UnitFollowsBook f.unit due not_begun [] unit
started-holds f u due unit whole begins decodes late is = subst (λ (s : Started). UnitFollowsBook s due not_begun [] unit) (sym is) (holds-started unit u f.unit.number_a f.unit.number_b due whole begins.only decodes late)

pub first-carried : (f : Found) (u : List ℕ) (due : ℕ) (image : Card → List ℕ) (d : Devices) → IsCoherent d.unit → ((c : Card) → IsCoherent (card_of d c)) → BeginsAs u d.unit → ((c : Card) → BeginsAs (image c) (card_of d c)) → Decodes u → last_kept u < due →
    f.unit ≡ started u f.unit.number_a f.unit.number_b d.unit.clock → ((c : Card) → (found_of f c).image ≡ image c) → ((c : Card) → IsOwnValid (image c) → IsLookedAt f c u (image c) (card_of d c).clock) → LedgerStands f (carried_first due) d
first-carried f u due image d unit_whole card_whole unit_begins card_begins decodes late unit_is image_is looked = record {
  tells = ap is_some unit_begins.tells;
  unit = started-holds f u due d.unit unit_whole unit_begins decodes late unit_is;
  cards = λ c valid.
      let sound : IsOwnValid (image c) = subst IsOwnValid (image_is c) valid in
      found-waits f c u (image c) d.unit (card_of d c) unit_whole (card_whole c) unit_begins (card_begins c) (looked c sound) sound;
  marks = λ c. record { held = All-nil (IsCardHeld (found_of f c) c not_begun (card_of d c)); rise = tt; none = λ bad. refl };
  hands = λ c valid. All-nil (IsFirstHeld (found_of f c) no_hands (card_of d c));
}
