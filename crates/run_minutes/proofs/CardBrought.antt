-- A card to which an entry is owed: it keeps it, or is torn out as it does; or nothing is asked of it, since it was torn out before.
use Rattle.std.proofs.Common.{◌≡◌, ◌*◌, ◌+◌, ◌≢◌, ◌∙◌, ◌⊎◌, inl, inr, ⊎_elim, ℕ, suc, max, ◌/◌, ◌<◌, ◌≤◌, Bool, true, false, cond, List, [], ◌∷◌, ◌++◌, length, Contains, Option, Some, None, IfSome, is_some, refl, ap, sym, subst, arith}
use Rattle.std.specs.Prelude.{nat_eq}
use Rattle.std.proofs.lemmas.List.{append-nil}
use Rattle.std.proofs.lemmas.List.Elements.{Contains-push}
use Rattle.activity_codec.specs.declared.entries.Entry.{Entry}
use Rattle.activity_codec.specs.declared.entries.Manual.{Manual}
use Rattle.trace_model.specs.declared.Card.{Card}
use Rattle.trace_model.specs.declared.Card.TheVariants.{A, B}
use Rattle.tach_media.specs.Medium.{State, IsCoherent, LeavesOnly, IsSettled}
use Rattle.tach_media.proofs.Runs.{at_image, weaken}
use Rattle.log_model.specs.declared.lines.Mark.{Mark}
use Rattle.log_model.specs.Causes.{device_of}
use Rattle.tach_media.specs.card_layout.Application.{IsApplication}
use Rattle.tach_media.specs.card_layout.Files.{image_size_of}
use Rattle.hand_model.specs.card_image.Fields.{end_mark, session_time}
use Rattle.hand_model.specs.card_image.View.{CardView}
use Rattle.hand_model.specs.card_image.Own.{own_view, own_sizes, own_covered, own_number, IsOwnValid}
use Rattle.hand_model.specs.Holding.{Holding, of_day, first_of, begun_by}
use Rattle.hand_model.specs.Written.{Written, Hands, entries_of, and_sure, and_given}
use Rattle.hand_model.proofs.OfDay.{spans}
use Rattle.card_session.specs.Sessions.{Session, IsSession}
use Rattle.device_calls.specs.card_by_hand.First.{IsFirstKept, IsFirstKeeping, AreHandsOf, IsShutAt, ComeFrom}
use Rattle.card_session.proofs.Marks.{mark_told}
use Rattle.device_calls.proofs.card_by_hand.Fresh.{first_valid}
use Rattle.device_calls.specs.card_string.Since.{HoldsSince, SitsSince, bound_since, counted_since, all_since}
use Rattle.device_calls.specs.card_string.Each.{EachHolds}
use Rattle.run_devices.specs.history_model.Minutes.{HistoryMinute, card_history}
use Rattle.run_devices.specs.history_model.Book.{Book}
use Rattle.run_devices.proofs.history_model.Books.{all-none}
use Rattle.run_devices.specs.device_rule.Views.{UnitView, unit_view}
use Rattle.run_devices.specs.device_rule.Device.{LeavesViews, EndsWith}
use Rattle.run_devices.specs.device_rule.Steps.{IsOnCard, IsNowOnCard}
use Rattle.run_devices.specs.device_rule.Rules.{Standing, Out, In, Torn, since, IsPresent, CardRule}
use Rattle.run_devices.specs.device_rule.Marked.{of_card, AnyAdded, HasBrought}
use Rattle.run_devices.proofs.device_rule.Staying.{keep-stays}
use Rattle.run_devices.proofs.device_rule.Viewed.{seen-run}
use Rattle.device_calls.specs.unit_rule.Rule.{once_mended}
use Rattle.device_calls.specs.unit_rule.Marks.{UnitFollowsBook}
use Rattle.device_calls.specs.Rule.{opened, CardHolds}
use Rattle.device_calls.specs.OnCard.{CardMayTake, IsOnItsCard, hands_for}
use Rattle.device_calls.specs.Minute.{IsNotIn}
use Rattle.device_calls.proofs.OnCard.{own-is, session-is, mark-is, first-sizes, hands-are, on-card, kept-torn, ends-on_card}
use Rattle.run_crew.specs.declared.cards.Accepted.{Accepted}
use Rattle.run_crew.specs.declared.cards.Cards.{Cards}
use Rattle.run_crew.specs.Cabin.{MayKeepAt}
use Rattle.run_devices.specs.run_promise.Found.{CardFound, Found, found_of, unit_seen, AnyKept}
use Rattle.run_devices.specs.run_promise.Cards.{brought_by, CardMarksHold, FirstKeep, and_first, HandMarksHold}
use Rattle.run_devices.specs.Registered.{VehiclesBefore, vehicles_before, StandAsBefore, HasNoMinuteElsewhere, IsUsedSo, TellsOfTwo}
use Rattle.run_minutes.proofs.FirstTold.{first-stand, first-minute, first-used}
use Rattle.card_session.specs.Sessions.{book_of}
use Rattle.tach_media.specs.card_layout.declared.files.Application.{Application}
use Rattle.run_devices.specs.Strung.{CardHoldsString, HasSameHolder}
use Rattle.run_devices.specs.Told.{AreFoundCards, SessionIsOnCard}
use Rattle.run_devices.proofs.Parts.{both_of, as-steps, of-steps, left-one, told-one}
use Rattle.run_devices.proofs.HandsCome.{hands-come}
use Rattle.run_devices.proofs.OnCards.{own-valid, valid-own, valid-on, then-holder}
use Rattle.run_minutes.specs.Keeping.{Has, Fell, marks_by}
use Rattle.run_minutes.specs.Books.{standing_by, hands_by, firsts_by}
use Rattle.run_minutes.specs.Owing.{CardOwing}
use Rattle.run_minutes.proofs.FirstSame.{first-holder}
use Rattle.run_minutes.proofs.HandsOn.{hands-run, hands-sure, hands-first}
use Rattle.run_minutes.proofs.MarksOn.{moment-hold, kept-hold, same-marks}
use Rattle.run_minutes.proofs.OnTheCard.{ready-here, each-kept, moment-holds, each-sure, session-on, goes-on, ends-on}
use Rattle.device_calls.specs.card_string.Deeds.{IsMadeSince}
use Rattle.device_calls.proofs.card_string.MadeSince.{keep_since}

-- later than the words at the start, as the steps have them
fresh-steps : (f : Found) (two : f.card_a.number ≢ f.card_b.number) (c : Card) (m : ℕ) → (found_of f c).start.word < m → (opened (both_of f two) c).start.word < m
fresh-steps f two A m lt = lt
fresh-steps f two B m lt = lt

-- ---- NOTHING IS ASKED of a card that was torn out before

still-torn : (f : Found) (c : Card) (b : Book) (z : Standing) (due : List Entry) (m : ℕ) (U X : State) → IsPresent (found_of f c).start z m → IsNotIn z
    → CardRule c (found_of f c).start AnyKept (found_of f c).began b z [] due (unit_seen f U) (of_card X) → CardRule c (found_of f c).start AnyKept (found_of f c).began b z [] [] (unit_seen f U) (of_card X)
still-torn f c b Out due m U X present out rule = absurd present
still-torn f c b (In time newest) due m U X present out rule = absurd out
still-torn f c b (Torn time newest floor) due m U X present out rule = record { dark = rule.dark; cells = rule.cells; stands = rule.stands }

pub card-still : (f : Found) (c : Card) (b : Book) (z : Standing) (hd : Hands) (firsts : List FirstKeep) (ks : List ℕ) (marks : List Mark) (due : List Entry) (m : ℕ) (U X : State) → IsPresent (found_of f c).start z m
    → CardOwing f c b z hd firsts ks marks due None U X → CardOwing f c b z hd firsts ks (marks ++ []) [] None U X
card-still f c b z hd firsts ks marks due m U X present one = record {
  rule = still-torn f c b z due m U X present one.goes.goes one.rule;
  valid = one.valid;
  brought = one.brought;
  held = one.held;
  goes = record { has = brought_by c (found_of f c).start b; all = append-nil (brought_by c (found_of f c).start b); goes = one.goes.goes };
  hold = same-marks (found_of f c) c b marks X one.hold;
  hands = one.hands;
}

-- ---- A KEEP

-- what a card in its slot is present by
present-in : (f : CardFound) (z : Standing) (time newest m : ℕ) → z ≡ In time newest → IsPresent f.start z m → f.start.word < m
present-in f z time newest m is present = (subst (λ (s : Standing). IsPresent f.start s m) is present).0

-- of the entries by hand those of a day are no more
day-few : (day : ℕ) (es : List Manual) → length (of_day day es) ≤ length es
day-few day [] = omega arith
day-few day (e ∷ es) = by (nat_eq (e.minute / 1440) day) (day-few day es)
  where
    by : (b : Bool) → length (of_day day es) ≤ length es → length (cond b (e ∷ es) (of_day day es)) ≤ length (e ∷ es)
    by true few = omega arith
    by false few = omega (arith, few)

-- a keep that may come writes eight of them at most
pub hands-few : (a : Accepted) (m : ℕ) → MayKeepAt m a → length (hands_for a.held m) ≤ 8
hands-few a m may = let less = day-few (m / 1440) a.held.entries in omega (arith, less, may.few)

module _ (f : Found) (cards : Cards) (found : AreFoundCards f cards) (c : Card) (due : ℕ) (b : Book) (z : Standing) (hd : Hands) (firsts : List FirstKeep) (ks : List ℕ) (marks : List Mark) (a : Accepted) (e : Entry) (odometer : ℕ) (U X Y : State) (unit : IsCoherent U) (whole : IsCoherent X) (after : IsCoherent Y)
    (tells : is_some U.image ≡ true) (h : UnitFollowsBook (once_mended f.unit) due b marks U) (none : b.maybe ≡ None) (valid : IsOwnValid (found_of f c).image) (present : IsPresent (found_of f c).start z e.minute) (one : CardOwing f c b z hd firsts ks marks (e ∷ []) (Some a) U X)
    (fits : (x : List ℕ) → X.image ≡ Some x → image_size_of a.session.application ≤ length x) (may : MayKeepAt e.minute a) (run : LeavesOnly X Y (λ x y. IsSession a.session x → IsFirstKeeping a.session (hands_for a.held e.minute) e odometer x y)) where
  abbrev g : CardFound
  g = found_of f c

  abbrev s : Session
  s = a.session

  abbrev by_hand : List Manual
  by_hand = hands_for a.held e.minute

  on : SessionIsOnCard g hd one.goes.has z s X
  on = one.goes.goes.0

  late : s.minute < e.minute
  late = spans s.minute e.minute a.held.entries may.lie

  are : AreHandsOf s e.minute by_hand
  are = hands-are s a.held e.minute may.lie

  few : length by_hand ≤ 8
  few = hands-few a e.minute may

  -- it writes none, or no entry is open at the end mark
  free : (by_hand ≡ []) ⊎ IfSome X.image (IsShutAt s.application)
  free = by a.held.begun refl
    where
      by : (o : Option ℕ) → a.held.begun ≡ o → (by_hand ≡ []) ⊎ IfSome X.image (IsShutAt s.application)
      by None is = inr (one.goes.goes.1 is)
      by (Some first) is = inl (ap (of_day (e.minute / 1440)) (may.once first is))

  fresh : g.start.word < e.minute
  fresh = present-in g z on.time s.minute e.minute on.stands present

  -- it may come, with them before it
  come : (x : List ℕ) → X.image ≡ Some x → ComeFrom (end_mark s.application x) (own_covered g.image) (suc (max g.start.word s.minute)) by_hand e
  come x told =
      let knows = at_image (IsSession s) told on.session in
      hands-come g (end_mark s.application x) s.minute by_hand e (found.word c valid) (omega (arith, knows.minute, mark_told s.application x)) fresh are.lie

  rule : CardRule c g.start AnyKept g.began b (In on.time s.minute) [] (e ∷ []) (unit_seen f U) (of_card X)
  rule = subst (λ (y : Standing). CardRule c g.start AnyKept g.began b y [] (e ∷ []) (unit_seen f U) (of_card X)) on.stands one.rule

  held : CardHoldsString g hd c b (In on.time s.minute) X
  held = subst (λ (y : Standing). CardHoldsString g hd c b y X) on.stands one.held

  sound : IsApplication s.application
  sound = subst IsApplication (sym on.sizes) (found.sizes c valid)

  is : (x : List ℕ) → X.may_leave x → own_sizes x ≡ own_sizes g.image
  is x there = (held.now x there).0

  some-unit : (u : UnitView) × (unit_seen f U).may_leave u
  some-unit = let left = left-one U unit tells in (unit_view f.card_a.number f.card_b.number left.0, (left.0, left.1, refl))

  opened-here : (x : List ℕ) → X.image ≡ Some x → 0 < session_time s.application x
  opened-here x told =
      let there = whole.is_left x told in
      let sits = (rule.stands.2 some-unit.0 (own_view x) some-unit.1 (x, there, refl)).open_ in
      let same : (own_view x).session ≡ session_time s.application x = ap (λ (v : CardView). v.session) (own-is s.application x (is x there ∙ sym on.sizes)) ∙ session-is s.application x in
      omega (arith, sits.opened, sits.same, same)

  low : (x : CardView) → (of_card X).may_leave x → x.mark < e.minute
  low x there = let sits = (rule.stands.2 some-unit.0 x some-unit.1 there).open_ in omega (arith, sits.mark, late)

  ready : (ws : List Written) × (from : ℕ) × IfSome X.image (λ x. CardMayTake s (bound_since g.image (entries_of ws)) (own_covered g.image) from (counted_since g.image ws) (all_since g.image (entries_of ws)) by_hand e x)
  ready = ready-here g.image hd one.goes.has s by_hand e odometer g.start.word are few fresh X free come whole sound on.sizes on.session on.goes is

  each-before : EachHolds (own_sizes g.image) g.image hd (brought_by c g.start b) (suc (max g.start.word s.minute)) g.began X
  each-before = record { now = held.now; since = held.since; told = held.told; behind = held.behind; stay = held.stay }

  -- the string at each moment
  each-made : EachHolds (own_sizes g.image) g.image (and_given by_hand hd) (brought_by c g.start b) (suc e.minute) g.began Y
  each-made =
      each-kept g.image hd one.goes.has s by_hand e odometer g.start.word are few fresh X free come whole sound on.sizes on.session on.goes is (brought_by c g.start b) one.goes.all (suc (max g.start.word s.minute)) g.began Y (omega (arith, late, fresh)) rule.dark.later opened-here run each-before

  moment-made : (x y : List ℕ) → X.image ≡ Some x → (IsSession s x → IsFirstKeeping s by_hand e odometer x y) → HoldsSince (own_sizes g.image) g.image (and_given by_hand hd) (one.goes.has ++ e ∷ []) (suc e.minute) y
  moment-made x y told keeping = moment-holds g.image hd one.goes.has s by_hand e odometer g.start.word are few fresh X free come whole sound on.sizes on.session on.goes is opened-here x y told keeping

  keeping : LeavesOnly X Y (IsFirstKeeping s by_hand e odometer)
  keeping = weaken run (λ x y told k. k (at_image (IsSession s) told on.session))

  kept-since : (n : ℕ) (x y : List ℕ) → X.image ≡ Some x → n < e.minute → IsFirstKeeping s by_hand e odometer x y → IsMadeSince (own_sizes g.image) n x y
  kept-since n x y is later k = subst (λ (p : Application). IsMadeSince p n x y) on.sizes (keep_since n s by_hand e odometer x y later k)

  step-at : (x y : List ℕ) → X.image ≡ Some x → IsFirstKeeping s by_hand e odometer x y → IsOnCard AnyAdded e (own_view x) (own_view y)
  step-at x y told k = on-card s (bound_since g.image (entries_of ready.0)) (own_covered g.image) ready.1 (counted_since g.image ready.0) (all_since g.image (entries_of ready.0)) by_hand e odometer are x y
      (at_image (CardMayTake s (bound_since g.image (entries_of ready.0)) (own_covered g.image) ready.1 (counted_since g.image ready.0) (all_since g.image (entries_of ready.0)) by_hand e) told ready.2) k

  views : LeavesViews (of_card X) (of_card Y) (IsOnCard AnyAdded e)
  views = seen-run own_view (λ x y. IsOnCard AnyAdded e (own_view x) (own_view y)) (IsOnCard AnyAdded e) X Y whole (weaken run (λ x y told k. step-at x y told (k (at_image (IsSession s) told on.session)))) (λ x y k. k)

  valid-now : (x : List ℕ) → Y.left_since g.began x → IsOwnValid x
  valid-now = valid-on g.began (IsFirstKeeping s by_hand e odometer) X Y rule.dark.later keeping
      (λ x y told k.
      let there = whole.is_left x told in
      let sizes : own_sizes x ≡ s.application = is x there ∙ sym on.sizes in
      let knows = at_image (IsSession s) told on.session in
      valid-own s.application y (first-sizes s by_hand e odometer x y k ∙ sizes)
      (first_valid s by_hand e odometer x y (record { sizes = sound; knows = knows; later = late }) are
      (record { fits = fits x told; session = opened-here x told; valid = own-valid s.application x sizes (one.valid x (whole.counts_now g.began x rule.dark.later there)) }) k)) one.valid

  holder-here : (x y : List ℕ) → X.may_leave x → IsFirstKeeping s by_hand e odometer x y → HasSameHolder x y
  holder-here x y there k = first-holder s by_hand e odometer x y (is x there ∙ sym on.sizes) k

  number-now : (x : List ℕ) → Y.may_leave x → own_number x ≡ g.number
  number-now y left = ⊎_elim (held.number y)
      (λ here. let there = whole.is_left here.0 here.1 in (holder-here here.0 y there here.2).number ∙ held.number here.0 there)
      (keeping.now y left)

  holder-since : (x : List ℕ) → Y.left_since g.began x → HasSameHolder g.image x
  holder-since y left = ⊎_elim (held.still y)
      (λ here. let there = whole.is_left here.0 here.1 in then-holder g.image here.0 y (held.still here.0 (whole.counts_now g.began here.0 rule.dark.later there)) (holder-here here.0 y there here.2))
      (keeping.since g.began y rule.dark.later left)

  -- as long as the end mark stays, the newest minute is no later than before and at the start
  newest-stays : (x y : List ℕ) → X.image ≡ Some x → IsFirstKeeping s by_hand e odometer x y → end_mark s.application y ≡ end_mark s.application x → (own_view x).newest ≤ (vehicles_before (own_sizes g.image) g.vehicle g.image).minute → (own_view y).newest ≤ (vehicles_before (own_sizes g.image) g.vehicle g.image).minute
  newest-stays x y image k same before =
      let there = whole.is_left x image in
      let own : own_sizes x ≡ s.application = is x there ∙ sym on.sizes in
      let words = (rule.stands.2 some-unit.0 (own_view x) some-unit.1 (x, there, refl)).words in
      ⊎_elim
      (λ stays. omega (arith, stays.2, words, found.word c valid, before))
      (λ moved. absurd (omega (
        arith,
        moved.0,
        low (own_view x) (x, there, refl),
        same,
        ap (λ (v : CardView). v.mark) (own-is s.application x own),
        ap (λ (v : CardView). v.mark) (own-is s.application y (first-sizes s by_hand e odometer x y k ∙ own)),
        mark-is s.application x,
        mark-is s.application y,
      )))
      (step-at x y image k).side

  keep-registered : (x y : List ℕ) → X.image ≡ Some x → TellsOfTwo (own_sizes g.image) g.vehicle g.image x → IsFirstKeeping s by_hand e odometer x y → TellsOfTwo (own_sizes g.image) g.vehicle g.image y
  keep-registered x y image told k =
      let before : VehiclesBefore = vehicles_before (own_sizes g.image) g.vehicle g.image in
      let points = (at_image (IsSession s) image on.session).card.points in
      record {
        entries = subst (λ (p : Application). StandAsBefore before (book_of p y).vehicles) on.sizes
            (first-stand before s by_hand e odometer x y on.vehicle points (subst (λ (p : Application). StandAsBefore before (book_of p x).vehicles) (sym on.sizes) told.entries) k);
        minutes = subst (λ (p : Application). HasNoMinuteElsewhere before p y) on.sizes
            (first-minute before s by_hand e odometer x y on.vehicle points (subst (λ (p : Application). HasNoMinuteElsewhere before p x) (sym on.sizes) told.minutes) k (newest-stays x y image k));
        session = subst (λ (p : Application). IsUsedSo p g.vehicle g.image y) on.sizes
            (first-used s g.vehicle g.image by_hand e odometer x y (subst (λ (p : Application). IsUsedSo p g.vehicle g.image x) (sym on.sizes) told.session) k);
      }

  registered-since : (x : List ℕ) → Y.left_since g.began x → TellsOfTwo (own_sizes g.image) g.vehicle g.image x
  registered-since y left = ⊎_elim (held.registered y)
      (λ here. keep-registered here.0 y here.1 (held.registered here.0 (whole.counts_now g.began here.0 rule.dark.later (whole.is_left here.0 here.1))) here.2)
      (keeping.since g.began y rule.dark.later left)

  brought-now : (k : ℕ) → Contains ks k → HasBrought f.card_a.number f.card_b.number c k U Y
  brought-now k at = keep-stays c (unit_seen f U) (of_card X) (of_card Y) g.start g.began on.time s.minute e (omega (arith, late)) rule.stands views k (one.brought k at)

  steps : CardHolds (both_of f found.two) c b (In on.time s.minute) [] (e ∷ []) U X
  steps = as-steps f found.two c b (In on.time s.minute) [] (e ∷ []) U X rule

  at-the-end : (failed : Bool) → (failed ≡ false → EndsWith (of_card X) (of_card Y) (IsNowOnCard AnyAdded e)) → IsOnItsCard (both_of f found.two) c b on.time e failed U Y
  at-the-end failed ends = kept-torn (both_of f found.two) c (once_mended f.unit) due b marks on.time s (bound_since g.image (entries_of ready.0)) (own_covered g.image) ready.1 (counted_since g.image ready.0) (all_since g.image (entries_of ready.0)) by_hand e odometer are unit tells whole h none steps
      (fresh-steps f found.two c e.minute fresh) ready.2 run failed ends

  -- the string as the card stands then: at this clock, with these entries by hand
  string-of : (he : Hands) → EachHolds (own_sizes g.image) g.image he (brought_by c g.start b) (suc e.minute) g.began Y → (y : Standing) → ((n : ℕ) → since y n ≡ e.minute) → CardHoldsString g he c b y Y
  string-of he each y at = record {
    tells = run.tells ∙ held.tells;
    now = λ x left.
        let same : suc e.minute ≡ suc (max g.start.word (since y (own_view x).newest)) = omega (arith, fresh, at (own_view x).newest) in
        let was = each.now x left in
        (was.0, subst (λ (n : ℕ). HoldsSince (own_sizes g.image) g.image he (brought_by c g.start b) n x) same was.1);
    since = each.since;
    told = each.told;
    behind = each.behind;
    stay = each.stay;
    number = number-now;
    still = holder-since;
    registered = registered-since;
  }

  -- its first keeps, with those of this one given
  hands-made : HandMarksHold g (and_given by_hand hd) firsts Y
  hands-made = hands-run g hd (and_given by_hand hd) firsts X Y (one.goes.has ++ e ∷ []) (suc e.minute) (λ x y. IsSession s x → IsFirstKeeping s by_hand e odometer x y) run (λ x y told k. moment-made x y told k) (λ d at. at) one.hands

  -- THE CALL FAILED
  fell : CardOwing f c b (Torn on.time e.minute e.minute) (and_given by_hand hd) firsts ks (marks ++ []) [] None U Y
  fell = record {
    rule = of-steps f found.two c b (Torn on.time e.minute e.minute) [] [] U Y ((at-the-end true (λ well. absurd (cc))).torn refl);
    valid = valid-now;
    brought = brought-now;
    held = string-of (and_given by_hand hd) each-made (Torn on.time e.minute e.minute) (λ n. refl);
    goes = record { has = brought_by c g.start b; all = append-nil (brought_by c g.start b); goes = tt };
    hold = same-marks g c b marks Y (moment-hold g c b marks e X Y whole (IsFirstKeeping s by_hand e odometer) keeping kept-since low views one.hold);
    hands = hands-made;
  }

  pub card-fell : CardOwing f c b (standing_by Fell e.minute z) (hands_by Fell a.held e.minute hd) (firsts_by Fell c a.held e.minute firsts) ks (marks ++ marks_by Fell (Some c) e.minute) [] None U Y
  card-fell = subst (λ (y : Standing). CardOwing f c b y (and_given by_hand hd) firsts ks (marks ++ []) [] None U Y) (sym (ap (standing_by Fell e.minute) on.stands)) fell

  -- THE CARD HAS IT
  module _ (t : Accepted) (works : Y.works ≡ true) (sizes : t.session.application ≡ s.application) (vehicle : t.session.registration ≡ s.registration) (at : t.session.minute ≡ e.minute) (begun : t.held ≡ begun_by e.minute a.held)
      (kept : IfSome X.image (λ x. IfSome Y.image (λ y. IsSession s x → IsFirstKept s t.session by_hand e odometer x y))) (settled : IsSettled Y) (wrote : Y.clock ≤ X.clock + (17 + 4 * length by_hand)) where
    ends : EndsWith (of_card X) (of_card Y) (IsNowOnCard AnyAdded e)
    ends = ends-on_card (both_of f found.two) c (once_mended f.unit) due b marks on.time s (bound_since g.image (entries_of ready.0)) (own_covered g.image) ready.1 (counted_since g.image ready.0) (all_since g.image (entries_of ready.0)) by_hand e odometer are unit tells whole h none steps
        (fresh-steps f found.two c e.minute fresh) ready.2 run t.session after works rule.stands.0 sizes at kept

    goes-all : IfSome Y.image (SitsSince t.session.application g.image (and_sure by_hand hd) (brought_by c g.start b) (suc (max g.start.word t.session.minute)))
    goes-all = subst (λ (es : List Entry). IfSome Y.image (SitsSince t.session.application g.image (and_sure by_hand hd) es (suc (max g.start.word t.session.minute)))) one.goes.all
        (goes-on g.image hd one.goes.has s by_hand e odometer g.start.word are few fresh X free come whole sound on.sizes on.session on.goes is t.session Y run.tells at kept sizes opened-here)

    each-of-all : EachHolds (own_sizes g.image) g.image (and_sure by_hand hd) (brought_by c g.start b) (suc e.minute) g.began Y
    each-of-all = each-sure g.image hd one.goes.has s by_hand e odometer g.start.word are few fresh X free come whole sound on.sizes on.session on.goes is t.session Y run.tells at kept (brought_by c g.start b) one.goes.all g.began opened-here (λ y left. after.only y works left) each-made

    sure : Contains (g.start.owed ++ card_history c b.sure) e
    sure = subst (λ (is : List HistoryMinute). Contains (g.start.owed ++ card_history c is) e) (all-none b none) (subst (λ (es : List Entry). Contains es e) one.goes.all (Contains-push one.goes.has e))

    some-view : (x : CardView) × (of_card X).may_leave x
    some-view = let told = told-one X.image held.tells in (own_view told.0, (told.0, whole.is_left told.0 told.1, refl))

    -- it has kept a minute now
    begun-now : t.held.begun ≡ None → ⊥
    begun-now free_ = by a.held.begun (sym (ap (λ (k : Holding). k.begun) begun) ∙ free_)
      where
        by : (o : Option ℕ) → first_of e.minute o ≡ None → ⊥
        by None is = cc
        by (Some first) is = cc

    abbrev mark : ℕ → Mark
    mark n = record { device = device_of c; minute = e.minute; clock = n }

    has : (n : ℕ) → n ≡ Y.clock → CardOwing f c b (In on.time e.minute) (and_sure by_hand hd) (and_first a.held.begun (record { mark = mark n; hands = by_hand }) firsts) ks (marks ++ mark n ∷ []) [] (Some t) U Y
    has n is_clock = record {
      rule = of-steps f found.two c b (In on.time e.minute) [] [] U Y ((at-the-end false (λ well. ends)).kept refl);
      valid = valid-now;
      brought = brought-now;
      held = string-of (and_sure by_hand hd) each-of-all (In on.time e.minute) (λ n. refl);
      goes = record {
        has = brought_by c g.start b;
        all = append-nil (brought_by c g.start b);
        goes = (
          record {
            time = on.time;
            stands = ap (In on.time) (sym at);
            sizes = sizes ∙ on.sizes;
            vehicle = vehicle ∙ on.vehicle;
            session = session-on g.image hd one.goes.has s by_hand e odometer g.start.word are few fresh X free come whole sound on.sizes on.session on.goes is t.session Y run.tells at kept;
            ends = ends-on g.image hd one.goes.has s by_hand e odometer g.start.word are few fresh X free come whole sound on.sizes on.session on.goes is t.session Y run.tells at kept sizes (λ x told.
                let there = whole.is_left x told in
                (fits x told, own-valid s.application x (is x there ∙ sym on.sizes) (one.valid x (whole.counts_now g.began x rule.dark.later there)), opened-here x told));
            goes = goes-all;
          },
          λ none_yet. absurd (begun-now none_yet),
        );
      };
      hold = subst (λ (k : ℕ). CardMarksHold g c b (marks ++ mark k ∷ []) Y) (sym is_clock)
          (kept-hold g c b marks e X Y whole (IsFirstKeeping s by_hand e odometer) keeping kept-since low views one.hold after valid some-view (told-one Y.image (run.tells ∙ held.tells)) (omega (arith, wrote, few)) (omega (arith, rule.dark.later, run.later)) settled ends sure);
      hands = hands-first g hd by_hand firsts a.held.begun (mark n) Y (brought_by c g.start b) (suc e.minute) g.began after settled is_clock are.day each-of-all (hands-sure g hd by_hand firsts Y hands-made);
    }

    pub card-has : (n : ℕ) → n ≡ Y.clock
        → CardOwing f c b (standing_by (Has t n) e.minute z) (hands_by (Has t n) a.held e.minute hd) (firsts_by (Has t n) c a.held e.minute firsts) ks (marks ++ marks_by (Has t n) (Some c) e.minute) [] (Some t) U Y
    card-has n is_clock =
        subst (λ (y : Standing). CardOwing f c b y (and_sure by_hand hd) (and_first a.held.begun (record { mark = mark n; hands = by_hand }) firsts) ks (marks ++ mark n ∷ []) [] (Some t) U Y) (sym (ap (standing_by (Has t n) e.minute) on.stands)) (has n is_clock)
