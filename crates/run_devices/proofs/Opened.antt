-- The opening: each card that is valid holds its string, with what the unit owes to it.
use Rattle.std.proofs.Common.{◌≡◌, ℕ, zero, suc, max, ◌/◌, ◌<◌, ◌≤◌, Bool, true, false, cond, is_some, List, [], ◌++◌, filter, All, refl, ap, subst, ◌∙◌, sym, arith}
use Rattle.std.specs.Prelude.{◌&&◌, nat_lt, nat_eq}
use Rattle.std.proofs.lemmas.Bool.Decides.{nat_tests}
use Rattle.std.proofs.lemmas.List.{append-nil}
use Rattle.device_calls.specs.activity_codec.declared.entries.Entry.{Entry}
use Rattle.device_calls.specs.trace_model.declared.Card.{Card}
use Rattle.tach_media.specs.Medium.{State, IsCoherent}
use Rattle.tach_media.specs.card_layout.declared.files.Application.{Application}
use Rattle.tach_media.specs.card_layout.Application.{IsApplication}
use Rattle.device_calls.specs.card_model.Changes.{trimmed}
use Rattle.device_calls.specs.card_retention.Entries.{newest_word}
use Rattle.device_calls.specs.card_image.Fields.{card_days, end_mark, session_time}
use Rattle.device_calls.specs.card_image.View.{CardView, card_view}
use Rattle.device_calls.specs.card_image.Own.{own_view, own_sizes, own_number, IsOwnValid}
use Rattle.device_calls.specs.card_session.Inserting.{Follow}
use Rattle.device_calls.specs.card_session.Repairs.{first_minute}
use Rattle.device_calls.specs.hand_model.AtStart.{all_at, hands_at, StaysTold}
use Rattle.device_calls.specs.hand_model.ByHand.{by_hand_in}
use Rattle.device_calls.specs.hand_model.Written.{IsPartOf, no_hands}
use Rattle.device_calls.specs.card_string.Since.{HoldsSince}
use Rattle.device_calls.specs.card_string.Each.{KeepsSince}
use Rattle.device_calls.proofs.card_string.Kept.{holds_kept}
use Rattle.device_calls.proofs.card_string.Small.{card_small, trimmed_small, last_of_small}
use Rattle.device_calls.proofs.card_string.Start.{starts_open, starts_shut}
use Rattle.device_calls.specs.history_model.Book.{not_begun}
use Rattle.device_calls.specs.history_model.Presence.{CardStart}
use Rattle.device_calls.proofs.history_model.Books.{history-none}
use Rattle.device_calls.specs.device_rule.Views.{UnitView, unit_view, row, owed, counts, is_session, beyond}
use Rattle.device_calls.specs.device_rule.Rules.{Out}
use Rattle.device_calls.proofs.device_rule.Pairs.{owed-above}
use Rattle.device_calls.specs.unit_rule.Safe.{Devices, card_of}
use Rattle.device_calls.proofs.OnCard.{own-is, session-is}
use Rattle.device_calls.proofs.Inserted.{bound_of as bound_in, beyond_shut}
use Rattle.run_promise.specs.Found.{Found, found_of}
use Rattle.run_promise.specs.Cards.{brought_by}
use Rattle.run_promise.specs.Between.{LedgerStands}
use Rattle.run_promise.specs.Opening.{BeginsAs, IsLookedAt, carried_first}
use Rattle.run_promise.proofs.Opening.{own-told, own-all, own-stays}
use Rattle.run_promise.proofs.OwedRises.{owed-rises}
use Rattle.run_devices.specs.Registered.{TellsOfTwo}
use Rattle.run_devices.proofs.Registered.{first-stands, first-minutes}
use Rattle.run_devices.proofs.Used.{first-used}
use Rattle.run_devices.specs.Strung.{CardHoldsString, HasSameHolder}
use Rattle.run_devices.specs.Told.{CardHoldsStringUnpowered, DevicesUnpowered}
use Rattle.run_devices.proofs.Parts.{held-dark}
use Rattle.run_devices.proofs.OnCards.{own-valid, same-holder, bound_of}
use Rattle.run_devices.proofs.Power.{follow-of}
use Rattle.run_devices.proofs.StringMore.{mark-own}

-- ---- nothing is owed to a card without a session

no-session : (s t : ℕ) → t ≡ 0 → is_session s t ≡ false
no-session s t none = by (nat_lt 0 s) refl
  where
    by : (b : Bool) → nat_lt 0 s ≡ b → (b && nat_eq s t) ≡ false
    by false is = refl
    by true is = grind (arith, nat_tests)

pub owed-none : (c : Card) (u : UnitView) (x : CardView) → x.session ≡ 0 → owed c u x ≡ []
owed-none c u x none = ap (λ (b : Bool). cond b (filter (λ (e : Entry). counts (x.session / 60) x.mark u.last e.minute) (row c u).cells) []) (no-session (row c u).session x.session none)

word-own : (app : Application) (x : List ℕ) → own_sizes x ≡ app → (own_view x).word ≡ newest_word (card_days app x)
unfolding own_view card_view
word-own app x is = ap (λ (a : Application). newest_word (card_days a x)) is

module _ (f : Found) (c : Card) (u x : List ℕ) (card : State) (whole : IsCoherent card) (begins : BeginsAs x card) (looked : IsLookedAt f c u x card.clock) (valid : IsOwnValid x) (sound : IsApplication (own_sizes x)) (number : (found_of f c).number ≡ own_number x) (bytes : All (λ b. b < 256) x) where
  abbrev view : UnitView
  view = unit_view f.card_a.number f.card_b.number u

  said : brought_by c (found_of f c).start not_begun ≡ owed c view (own_view x)
  said = ap (λ (es : List Entry). (found_of f c).start.owed ++ es) (history-none c) ∙ append-nil (found_of f c).start.owed ∙ ap (λ (s : CardStart). s.owed) looked.start

  follows : Follow (end_mark (own_sizes x) x) (owed c view (own_view x))
  follows = subst (λ (m : ℕ). Follow m (owed c view (own_view x))) (mark-own (own_sizes x) x refl)
      (follow-of (own_view x).mark (owed c view (own_view x)) (owed-rises c f.card_a.number f.card_b.number u (own_view x)) (owed-above c view (own_view x)))

  bound : (own_view x).mark ≤ (own_view x).newest
  bound = subst (λ (v : CardView). v.mark ≤ v.newest) (sym (own-is (own_sizes x) x refl)) (bound_in (own_sizes x) x)

  word : (found_of f c).start.word ≡ beyond (own_view x)
  word = ap (λ (s : CardStart). s.word) looked.start

  starts : HoldsSince (own_sizes x) x no_hands (owed c view (own_view x)) (bound_of (found_of f c) Out x) x
  starts = by (session_time (own_sizes x) x) refl
    where
      session : (own_view x).session ≡ session_time (own_sizes x) x
      session = ap (λ (v : CardView). v.session) (own-is (own_sizes x) x refl) ∙ session-is (own_sizes x) x

      by : (n : ℕ) → session_time (own_sizes x) x ≡ n → HoldsSince (own_sizes x) x no_hands (owed c view (own_view x)) (bound_of (found_of f c) Out x) x
      by zero none =
          let shut : (own_view x).session ≡ 0 = session ∙ none in
          starts_shut x (owed c view (own_view x)) (bound_of (found_of f c) Out x) follows looked.days (own-valid (own_sizes x) x refl valid) none
          (subst (λ (es : List Entry). max (end_mark (own_sizes x) x) (newest_word (card_days (own_sizes x) x)) < first_minute (bound_of (found_of f c) Out x) es) (sym (owed-none c view (own_view x) shut))
          (omega (arith, mark-own (own_sizes x) x refl, bound, word, beyond_shut (own_view x) shut, word-own (own_sizes x) x refl)))
          (last_of_small (card_days (own_sizes x) x) (card_small (own_sizes x) x bytes))
      by (suc n) some =
          starts_open x (owed c view (own_view x)) (bound_of (found_of f c) Out x) follows looked.days (omega (arith, mark-own (own_sizes x) x refl, bound)) (omega (arith, some))
          (last_of_small (trimmed (end_mark (own_sizes x) x) (card_days (own_sizes x) x)) (trimmed_small (end_mark (own_sizes x) x) (card_days (own_sizes x) x) (card_small (own_sizes x) x bytes)))

  only : (y : List ℕ) → card.left_since (found_of f c).began y → y ≡ x
  only y left = begins.only y (subst (λ (n : ℕ). card.left_since n y) looked.began left)

  only-now : (y : List ℕ) → card.may_leave y → y ≡ x
  only-now y there = begins.only y (whole.counts_now card.clock y (omega arith) there)

  -- with the words of a run
  found-starts : HoldsSince (own_sizes (found_of f c).image) (found_of f c).image no_hands (brought_by c (found_of f c).start not_begun) (bound_of (found_of f c) Out x) x
  found-starts =
      subst (λ (i : List ℕ). HoldsSince (own_sizes i) i no_hands (brought_by c (found_of f c).start not_begun) (bound_of (found_of f c) Out x) x) (sym looked.image)
      (subst (λ (es : List Entry). HoldsSince (own_sizes x) x no_hands es (bound_of (found_of f c) Out x) x) (sym said) starts)

  same-sizes : own_sizes x ≡ own_sizes (found_of f c).image
  same-sizes = ap own_sizes (sym looked.image)

  pub opened-held : CardHoldsString (found_of f c) no_hands c not_begun Out card
  opened-held = record {
    tells = ap is_some begins.tells;
    now = λ y there. subst (λ (k : List ℕ). (own_sizes k ≡ own_sizes (found_of f c).image) × HoldsSince (own_sizes (found_of f c).image) (found_of f c).image no_hands (brought_by c (found_of f c).start not_begun) (bound_of (found_of f c) Out k) k) (sym (only-now y there))
        (same-sizes, found-starts);
    since = λ y left. subst (λ (k : List ℕ). (own_sizes k ≡ own_sizes (found_of f c).image) × KeepsSince (found_of f c).image [] (brought_by c (found_of f c).start not_begun) k) (sym (only y left))
        (same-sizes, holds_kept (own_sizes (found_of f c).image) (subst (λ (i : List ℕ). IsApplication (own_sizes i)) (sym looked.image) sound) (found_of f c).image x refl same-sizes no_hands (brought_by c (found_of f c).start not_begun) (bound_of (found_of f c) Out x) found-starts);
    told = λ y left. subst (λ (k : List ℕ). IsPartOf (by_hand_in (own_sizes (found_of f c).image) k) (hands_at (found_of f c).image ++ [])) (sym (only y left))
        (subst (λ (i : List ℕ). IsPartOf (by_hand_in (own_sizes i) x) (hands_at i ++ [])) (sym looked.image) (own-told x));
    behind = λ y left. subst (λ (k : List ℕ). (own_view k).session ≡ 0 → IsPartOf (all_at k) (hands_at (found_of f c).image ++ [])) (sym (only y left))
        (subst (λ (i : List ℕ). (own_view x).session ≡ 0 → IsPartOf (all_at x) (hands_at i ++ [])) (sym looked.image) (own-all x));
    stay = λ y left. subst (λ (k : List ℕ). StaysTold (found_of f c).image (own_sizes (found_of f c).image) k) (sym (only y left)) (subst (λ (i : List ℕ). StaysTold i (own_sizes i) x) (sym looked.image) (own-stays x));
    number = λ y there. ap own_number (only-now y there) ∙ sym number;
    still = λ y left. subst (HasSameHolder (found_of f c).image) (looked.image ∙ sym (only y left)) (same-holder (found_of f c).image);
    registered = λ y left. subst (TellsOfTwo (own_sizes (found_of f c).image) (found_of f c).vehicle (found_of f c).image) (looked.image ∙ sym (only y left)) (record { entries = first-stands (own_sizes (found_of f c).image) (found_of f c).vehicle (found_of f c).image; minutes = first-minutes (own_sizes (found_of f c).image) (found_of f c).vehicle (found_of f c).image; session = first-used (own_sizes (found_of f c).image) (found_of f c).vehicle (found_of f c).image });
  }

  pub opened-wait : CardHoldsStringUnpowered (found_of f c) no_hands c not_begun Out card
  opened-wait = held-dark (found_of f c) no_hands c not_begun Out card refl opened-held

-- so all that the opening found is carried, before there is power
pub opened-powerless : (f : Found) (due : ℕ) (d : Devices) → LedgerStands f (carried_first due) d → ((c : Card) → IsOwnValid (found_of f c).image → CardHoldsStringUnpowered (found_of f c) no_hands c not_begun Out (card_of d c)) → DevicesUnpowered f (carried_first due) d
opened-powerless f due d carried wait = record { carried = carried; wait = wait }
