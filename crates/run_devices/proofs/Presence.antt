-- How the cards stand that were present in the minutes that are still to be kept.
use Rattle.std.proofs.Common.{◌≡◌, ◌⊎◌, inl, inr, ⊎_elim, ℕ, zero, suc, ◌+◌, ◌*◌, ◌/◌, ◌<◌, ◌≤◌, Bool, true, false, cond, not, ◌&&◌, nat_lt, nat_eq, Option, Some, None, List, [], ◌∷◌, ◌++◌, All, filter, map, is_some, take, refl, ap, sym, subst, ◌∙◌, arith}
use Rattle.std.specs.Prelude.{option_map, option_to_list}
use Rattle.std.proofs.lemmas.Bool.Decides.{nat_tests}
use Rattle.std.proofs.lemmas.List.Elements.{All-head, All-tail, Contains-append_left, Contains-push}
use Rattle.device_calls.specs.activity_codec.declared.entries.Entry.{Entry}
use Rattle.device_calls.specs.activity_codec.declared.values.Slot.{Slot}
use Rattle.device_calls.specs.activity_codec.declared.values.Slot.TheVariants.{Driver, CoDriver}
use Rattle.device_calls.specs.trace_model.declared.Card.{Card}
use Rattle.run_crew.specs.log_model.Slots.{Sitting, same_card, in_slot}
use Rattle.run_crew.specs.log_model.Course.{ToldSecond, Course}
use Rattle.device_calls.specs.history_model.Minutes.{HistoryMinute, Seat as HistorySeat, is_crew, entry_in}
use Rattle.device_calls.specs.history_model.Presence.{Start, CardStart, card_start}
use Rattle.device_calls.specs.device_rule.Rules.{Standing, In, Torn, IsPresent}
use Rattle.run_crew.specs.card_slots.declared.seats.Seat.{Seat}
use Rattle.run_crew.specs.card_slots.declared.seats.Ended.{Ended}
use Rattle.run_crew.specs.card_slots.declared.seats.Present.{Present}
use Rattle.run_crew.specs.card_slots.Calls.{ended_in, present_in, present_of, is_earlier, ending}
use Rattle.run_crew.specs.card_slots.Kept.{Kept, KnowsNewest, left_in}
use Rattle.run_crew.specs.declared.cabin.Cabin.{Cabin}
use Rattle.run_crew.specs.declared.cards.Accepted.{Accepted}
use Rattle.run_crew.specs.declared.cards.Cards.{Cards}
use Rattle.run_crew.specs.Cards.{session_of}
use Rattle.run_crew.specs.Cabin.{SeatAnswers, AnswersTo}
use Rattle.run_crew.proofs.Sessions.{same_self, same_is}
use Rattle.run_promise.specs.Found.{Found, found_of}
use Rattle.run_promise.specs.run_course.Presence.{IsNewestAt, IsNewest, SitsAs}
use Rattle.run_promise.specs.run_course.Kept.{BrokenSince, StaysOut}
use Rattle.run_devices.specs.Presence.{IsIn, StandsIn, IsSeated, sits, NoneIsToBeKept, SessionsStand, AMinuteEndsSo, AStepLeavesSo, TheNextBeginsSo, WhatAMinuteSays}

-- MINUTES that have ended are over
found-in : (past : List Ended) (m : ℕ) (p : Present) → present_in past m ≡ Some p → (e : Ended) × (ended_in past m ≡ Some e) × (e.present ≡ p)
found-in past m p is = by (ended_in past m) refl
  where
    by : (o : Option Ended) → ended_in past m ≡ o → (e : Ended) × (ended_in past m ≡ Some e) × (e.present ≡ p)
    by None none = absurd (let clash : None ≡ Some p = ap (option_map {T = Ended} (λ e. e.present)) (sym none) ∙ is in cc)
    by (Some e) some = let same : Some e.present ≡ Some p = ap (option_map {T = Ended} (λ e. e.present)) (sym some) ∙ is in (e, some, let one : e.present ≡ p = cc in one)

ended-over : (n : ℕ) (past : List Ended) (m : ℕ) (e : Ended) → All (λ e. e.minute < n) past → ended_in past m ≡ Some e → m < n
ended-over n [] m e over is = absurd (cc)
ended-over n (x ∷ past) m e over is = by (nat_eq x.minute m) refl (λ rest. ended-over n past m e (All-tail (λ (e : Ended). e.minute < n) x past over) rest)
  where
    by : (b : Bool) → nat_eq x.minute m ≡ b → (ended_in past m ≡ Some e → m < n) → m < n
    by true same others = let lt = All-head (λ (e : Ended). e.minute < n) x past over in let eq : x.minute ≡ m = grind (arith, nat_tests) in omega (arith, lt, eq)
    by false same others = others (ap (λ (b : Bool). cond b (Some x) (ended_in past m)) (sym same) ∙ is)

pub past-over : (k : Kept) (n m : ℕ) (p : Present) → KnowsNewest k → k.minute ≤ n → present_in k.past m ≡ Some p → m < n
past-over k n m p knows le is = let e = found-in k.past m p is in let lt = ended-over k.minute k.past m e.0 knows.over e.1 in omega (arith, lt, le)

-- NONE IS TO BE KEPT
pub none-to_keep : NoneIsToBeKept
none-to_keep f standing told c number cabin knows le seated = record {
  seated = seated;
  ended = λ m present card from is in_. absurd (let lt = past-over cabin.slots (number / 60) m present knows le is in omega (arith, lt, from));
}

-- A MINUTE ENDS
taken-in : (n : ℕ) (past : List Ended) (m : ℕ) (e : Ended) → ended_in (take n past) m ≡ Some e → ended_in past m ≡ Some e
taken-in zero past m e is = absurd (cc)
taken-in (suc n) [] m e is = absurd (cc)
taken-in (suc n) (x ∷ past) m e is = by (nat_eq x.minute m) refl (λ rest. taken-in n past m e rest)
  where
    by : (b : Bool) → nat_eq x.minute m ≡ b → (ended_in (take n past) m ≡ Some e → ended_in past m ≡ Some e) → cond (nat_eq x.minute m) (Some x) (ended_in past m) ≡ Some e
    by true same others = ap (λ (b : Bool). cond b (Some x) (ended_in past m)) same ∙ ap (λ (b : Bool). cond b (Some x) (ended_in (take n past) m)) (sym same) ∙ is
    by false same others = ap (λ (b : Bool). cond b (Some x) (ended_in past m)) same ∙ others (ap (λ (b : Bool). cond b (Some x) (ended_in (take n past) m)) (sym same) ∙ is)

-- who is present sits accepted, by an earlier newest minute, and has not left
pub record WasThere (left : Card → ℕ → Bool) (minute : ℕ) (seat : Option Seat) (card : Card) : Type 0 where
  pub newest : ℕ
  pub seat_is : seat ≡ Some (record { card = card; newest = Some newest })
  pub earlier : newest < minute
  pub stayed : left card minute ≡ false

and-left : (x y : Bool) → (x && y) ≡ true → x ≡ true
and-left true y h = refl
and-left false y h = absurd (cc)

and-right : (x y : Bool) → (x && y) ≡ true → y ≡ true
and-right true y h = h
and-right false y h = absurd (cc)

not-true : (b : Bool) → not b ≡ true → b ≡ false
not-true true h = absurd (cc)
not-true false h = refl

was-there : (left : Card → ℕ → Bool) (minute : ℕ) (seat : Option Seat) (card : Card) → present_of left minute seat ≡ Some card → WasThere left minute seat card
was-there left minute None card is = absurd (cc)
was-there left minute (Some seat) card is = by (is_earlier seat.newest minute && not (left seat.card minute)) refl
  where
    with-newest : (o : Option ℕ) → seat.newest ≡ o → is_earlier o minute ≡ true → (n : ℕ) × (seat.newest ≡ Some n) × (n < minute)
    with-newest None e h = absurd (cc)
    with-newest (Some n) e h = (n, e, grind (arith, nat_tests))

    by : (b : Bool) → (is_earlier seat.newest minute && not (left seat.card minute)) ≡ b → WasThere left minute (Some seat) card
    by true both =
        let same : Some seat.card ≡ Some card = ap (λ (b : Bool). cond b (Some seat.card) None) (sym both) ∙ is in
        let card_is : seat.card ≡ card = cc in
        let n = with-newest seat.newest refl (and-left (is_earlier seat.newest minute) (not (left seat.card minute)) both) in
        record {
          newest = n.0;
          seat_is = ap (λ (o : Option ℕ). Some (record { card = seat.card; newest = o })) n.1 ∙ ap (λ (c : Card). Some (record { card = c; newest = Some n.0 })) card_is;
          earlier = n.2;
          stayed = ap (λ (c : Card). left c minute) (sym card_is) ∙ not-true (left seat.card minute) (and-right (is_earlier seat.newest minute) (not (left seat.card minute)) both);
        }
    by false both = absurd (let clash : None ≡ Some card = ap (λ (b : Bool). cond b (Some seat.card) None) (sym both) ∙ is in cc)

lt-or_le : (a b : ℕ) → (a < b) ⊎ (b ≤ a)
lt-or_le a b = by (nat_lt a b) refl
  where
    by : (t : Bool) → nat_lt a b ≡ t → (a < b) ⊎ (b ≤ a)
    by true is = inl (grind (arith, nat_tests))
    by false is = inr (grind (arith, nat_tests))

true-false : (b : Bool) → b ≡ true → b ≡ false → ⊥
true-false b x y = let clash : true ≡ false = sym x ∙ y in absurd (cc)

module _ (f : Found) (start : Start) (starts : (card : Card) → (found_of f card).start ≡ card_start start card) (standing : Card → Standing) (told : List ToldSecond) (c : Course) (past : List HistoryMinute) (from number : ℕ) (cabin : Cabin)
    (seated : (slot : Slot) (card : Card) (u : ℕ) → in_slot c.slots slot ≡ sits card u → IsSeated f standing card u) (go : SessionsStand f standing cabin.cards) (late : from ≤ number / 60) where
  -- a card that is present at a minute's end
  here : (slot : Slot) (seat : Option Seat) (sitting : Option Sitting) (card : Card) (later : ℕ) → in_slot c.slots slot ≡ sitting → SitsAs start past from cabin.slots seat sitting → SeatAnswers from cabin.cards seat →
      WasThere (left_in cabin.slots.left) (number / 60) seat card → StandsIn f standing cabin.cards told c later (number / 60) card
  here slot seat sitting card later at alike answers w = by sitting at (subst (λ (s : Option Seat). SitsAs start past from cabin.slots s sitting) w.seat_is alike)
    where
      session : (o : Option Accepted) → session_of cabin.cards card ≡ o → AnswersTo from (Some w.newest) o → (a : Accepted) × (session_of cabin.cards card ≡ Some a) × ((a.session.minute ≤ w.newest) ⊎ (a.session.minute < from))
      session None is h = absurd h
      session (Some a) is h = (a, is, h)

      answer : (a : Accepted) × (session_of cabin.cards card ≡ Some a) × ((a.session.minute ≤ w.newest) ⊎ (a.session.minute < from))
      answer = session (session_of cabin.cards card) refl (subst (SeatAnswers from cabin.cards) w.seat_is answers)

      word : (u : ℕ) → u / 60 ≤ from → IsNewestAt start past cabin.slots card w.newest u → (found_of f card).start.word < number / 60
      word u le newest = ⊎_elim
          (λ lt. lt)
          (λ high. absurd (⊎_elim
          (λ low. let e = w.earlier in omega (arith, low, e))
          (λ left. true-false (left_in cabin.slots.left card (number / 60)) left w.stayed)
          ((newest (number / 60) (omega (arith, le, late))).1 (subst (λ (s : CardStart). number / 60 ≤ s.word) (starts card) high))))
          (lt-or_le (found_of f card).start.word (number / 60))

      accepted : (x : Sitting) (o : Option ℕ) → x.accepted ≡ o → in_slot c.slots slot ≡ Some x → card ≡ x.card → IsNewest start past from cabin.slots card (Some w.newest) o → StandsIn f standing cabin.cards told c later (number / 60) card
      accepted x None is there same newest = absurd newest
      accepted x (Some u) is there same newest =
          let seat_ = seated slot card u (there ∙ ap (λ (o : Option ℕ). Some (record { card = x.card; accepted = o })) is ∙ ap (λ (k : Card). sits k u) (sym same)) in
          let a = answer in
          let stands = go card a.0 seat_.0 a.1 in
          let both : In u seat_.1.0 ≡ In stands.0 a.0.session.minute = sym seat_.1.1 ∙ stands.1 in
          let minute : seat_.1.0 ≡ a.0.session.minute = cc in
          record {
            valid = seat_.0;
            present = subst (λ (z : Standing). IsPresent (found_of f card).start z (number / 60)) (sym seat_.1.1) (
              word u newest.0 newest.1,
              ⊎_elim (λ low. let e = w.earlier in omega (arith, low, e, minute)) (λ low. omega (arith, low, late, minute)) a.2,
              let low = newest.0 in omega (arith, low, late),
            );
            session = inl (ap (λ (o : Option Accepted). is_some o) a.1);
          }

      by : (s : Option Sitting) → in_slot c.slots slot ≡ s → SitsAs start past from cabin.slots (Some (record { card = card; newest = Some w.newest })) s → StandsIn f standing cabin.cards told c later (number / 60) card
      by None is h = absurd h
      by (Some x) is h = accepted x x.accepted refl is h.0 h.1

broken-later : (told : List ToldSecond) (c : Course) (card : Card) (from number later : ℕ) → number ≤ later → BrokenSince told c card from number → BrokenSince told c card from later
broken-later told c card from number later le (inl h) = inl (h.0, h.1, h.2, (let low = h.3 in omega (arith, low, le)), h.4)
broken-later told c card from number later le (inr h) = inr ((let low = h.0 in omega (arith, low, le)), h.1)

stands-later : (f : Found) (standing : Card → Standing) (cards : Cards) (told : List ToldSecond) (c : Course) (number later m : ℕ) (card : Card) → number ≤ later → StandsIn f standing cards told c number m card → StandsIn f standing cards told c later m card
stands-later f standing cards told c number later m card le h =
    record { valid = h.valid; present = h.present; session = ⊎_elim (λ s. inl s) (λ b. inr (broken-later told c card (60 * (m + 1)) number later le b)) h.session }

pub minute-ends : AMinuteEndsSo
minute-ends f start starts standing told c past left number later from cabin h tells stands go late le = record {
  seated = h.seated;
  ended = λ m present card low is in_. by m present card low in_ (nat_eq (number / 60) m) refl is;
}
  where
    at-end : Ended
    at-end = ending (left_in cabin.slots.left) (number / 60) cabin.slots.seats

    now : (m : ℕ) (present : Present) (card : Card) → number / 60 ≡ m → at-end.present ≡ present → IsIn present card → StandsIn f standing cabin.cards told c later m card
    now m present card is same in_ = subst (λ (n : ℕ). StandsIn f standing cabin.cards told c later n card) is (⊎_elim
        (λ first. here f start starts standing told c past from number cabin h.seated go late Driver cabin.slots.seats.driver c.slots.driver card later refl tells.driver stands.driver
        (was-there (left_in cabin.slots.left) (number / 60) cabin.slots.seats.driver card (ap (λ (p : Present). p.driver) same ∙ first)))
        (λ second. here f start starts standing told c past from number cabin h.seated go late CoDriver cabin.slots.seats.codriver c.slots.codriver card later refl tells.codriver stands.codriver
        (was-there (left_in cabin.slots.left) (number / 60) cabin.slots.seats.codriver card (ap (λ (p : Present). p.codriver) same ∙ second)))
        in_)

    by : (m : ℕ) (present : Present) (card : Card) → from ≤ m → IsIn present card → (b : Bool) → nat_eq (number / 60) m ≡ b → present_in (at-end ∷ take 3 cabin.slots.past) m ≡ Some present → StandsIn f standing cabin.cards told c later m card
    by m present card low in_ true same is =
        let e = found-in (at-end ∷ take 3 cabin.slots.past) m present is in
        let first : Some at-end ≡ Some e.0 = ap (λ (b : Bool). cond b (Some at-end) (ended_in (take 3 cabin.slots.past) m)) (sym same) ∙ e.1 in
        let one : at-end ≡ e.0 = cc in
        now m present card (grind (arith, nat_tests)) (ap (λ (x : Ended). x.present) one ∙ e.2) in_
    by m present card low in_ false same is =
        let e = found-in (at-end ∷ take 3 cabin.slots.past) m present is in
        let rest : ended_in (take 3 cabin.slots.past) m ≡ Some e.0 = ap (λ (b : Bool). cond b (Some at-end) (ended_in (take 3 cabin.slots.past) m)) (sym same) ∙ e.1 in
        stands-later f standing cabin.cards told c number later m card le
        (h.ended m present card low (ap (option_map {T = Ended} (λ e. e.present)) (taken-in 3 cabin.slots.past m e.0 rest) ∙ ap (λ (p : Present). Some p) e.2) in_)

-- A STEP
present-more : (s : CardStart) (t n k m : ℕ) → k < m → IsPresent s (In t n) m → IsPresent s (In t k) m
present-more s t n k m lt h = (h.0, lt, h.2)

present-torn : (s : CardStart) (t n k floor m : ℕ) → k < m → floor ≤ m → m < floor + 4 → IsPresent s (In t n) m → IsPresent s (Torn t k floor) m
present-torn s t n k floor m lt low high h = (h.0, lt, h.2, low, high)

broken-on : (told : List ToldSecond) (c d : Course) (card : Card) (from number : ℕ) → StaysOut c d → BrokenSince told c card from number → BrokenSince told d card from number
broken-on told c d card from number out (inl before) = inl before
broken-on told c d card from number out (inr now) = inr (now.0, (now.1.0, now.1.1, ⊎_elim (λ torn. inl (out.torn now.1.0 torn)) (λ pulled. inr (out.pulled now.1.0 pulled)) now.1.2))

pub step-leaves : AStepLeavesSo
step-leaves f old new told c d number from next cabin after h knows minute le past out each seats = record {
  seated = λ slot card u at.
      let s = seats slot card u at in
      let was = h.seated slot card u s.0 in
      ⊎_elim
      (λ stays. (was.0, (was.1.0, stays.0 ∙ was.1.1)))
      (λ more. (was.0, (more.minute, more.is ∙ (let both : In more.time more.before ≡ In u was.1.0 = sym more.was ∙ was.1.1 in let time : more.time ≡ u = cc in ap (λ (t : ℕ). In t more.minute) time))))
      s.1;
  ended = λ m present card low is in_.
      let there : present_in cabin.slots.past m ≡ Some present = ap (λ (es : List Ended). present_in es m) (sym past) ∙ is in
      let was = h.ended m present card (omega (arith, low, le)) there in_ in
      let over = past-over cabin.slots (number / 60) m present knows minute there in
      ⊎_elim
      (λ stays. record {
        valid = was.valid;
        present = subst (λ (z : Standing). IsPresent (found_of f card).start z m) (sym stays.0) was.present;
        session = ⊎_elim (λ s. inl (stays.1 s)) (λ b. inr (broken-on told c d card (60 * (m + 1)) number out b)) was.session;
      })
      (λ other. ⊎_elim
      (λ more. record {
        valid = was.valid;
        present = subst (λ (z : Standing). IsPresent (found_of f card).start z m) (sym more.is)
            (present-more (found_of f card).start more.time more.before more.minute m (let lt = more.kept in omega (arith, lt, low)) (subst (λ (z : Standing). IsPresent (found_of f card).start z m) more.was was.present));
        session = inl more.session;
      })
      (λ torn.
      let before = subst (λ (z : Standing). IsPresent (found_of f card).start z m) torn.was was.present in
      let floor_ = torn.from_ in
      let few_ = torn.few in
      record {
        valid = was.valid;
        present = subst (λ (z : Standing). IsPresent (found_of f card).start z m) (sym torn.is)
            (present-torn (found_of f card).start torn.time torn.before torn.newest torn.floor m (⊎_elim (λ low_. let lt = before.1 in omega (arith, low_, lt)) (λ low_. omega (arith, low_, low)) torn.low) (omega (arith, floor_, low)) (omega (arith, few_, over)) before);
        session = inr (inr (omega (arith, over), (torn.out, torn.card_is, torn.told)));
      })
      other)
      (each card);
}

-- THE NEXT SECOND
pub next-begins : TheNextBeginsSo
next-begins f standing told t number later from cabin is le h = record {
  seated = h.seated;
  ended = λ m present card low there in_.
      let was = h.ended m present card low there in_ in
      record {
        valid = was.valid;
        present = was.present;
        session = ⊎_elim (λ s. inl s)
            (λ b. inr (inl (⊎_elim
            (λ old. (old.0, Contains-append_left told (t ∷ []) old.0 old.1, old.2, (let high = old.3 in omega (arith, high, le)), old.4))
            (λ now. (t, Contains-push told t, (let first = now.0 in omega (arith, first, is)), omega (arith, is, le), now.1))
            b)))
            was.session;
      };
}

-- WHAT A MINUTE SAYS
nothing-on : (card : Card) (slot : Slot) (i : HistoryMinute) (seat : HistorySeat) (o : Option Card) → seat.card ≡ o → (o ≡ Some card → ⊥) → entry_in card slot i seat ≡ []
nothing-on card slot i seat None is other = ap (λ (o : Option Card). map {B = Entry} (λ (c : Card). record { minute = i.minute; slot = slot; crew = is_crew i; act = seat.act }) (filter (same_card card) (option_to_list o))) is
nothing-on card slot i seat (Some c) is other =
    ap (λ (o : Option Card). map {B = Entry} (λ (c : Card). record { minute = i.minute; slot = slot; crew = is_crew i; act = seat.act }) (filter (same_card card) (option_to_list o))) is ∙ by (same_card card c) refl
  where
    by : (b : Bool) → same_card card c ≡ b → map {B = Entry} (λ (c : Card). record { minute = i.minute; slot = slot; crew = is_crew i; act = seat.act }) (cond (same_card card c) (c ∷ []) []) ≡ []
    by true same = absurd (other (ap (λ (x : Card). Some x) (sym (same_is card c same))))
    by false same = ap (λ (b : Bool). map {B = Entry} (λ (c : Card). record { minute = i.minute; slot = slot; crew = is_crew i; act = seat.act }) (cond b (c ∷ []) [])) same

this-or_not : (o : Option Card) (card : Card) → (o ≡ Some card) ⊎ (o ≡ Some card → ⊥)
this-or_not None card = inr (λ is. absurd (let clash : None ≡ Some card = is in cc))
this-or_not (Some c) card = by (same_card c card) refl
  where
    by : (b : Bool) → same_card c card ≡ b → (Some c ≡ Some card) ⊎ (Some c ≡ Some card → ⊥)
    by true same = inl (ap (λ (x : Card). Some x) (same_is c card same))
    by false same = inr (λ is. let one : c ≡ card = cc in true-false (same_card c card) (ap (same_card c) (sym one) ∙ same_self c) same)

pub minute-says : WhatAMinuteSays
minute-says f standing told c number from cabin h i present low is driver codriver card = ⊎_elim
    (λ first. inr (h.ended i.minute present card low is (inl first)))
    (λ not_first. ⊎_elim
    (λ second. inr (h.ended i.minute present card low is (inr second)))
    (λ not_second. inl
    (ap (λ (es : List Entry). es ++ entry_in card CoDriver i i.codriver) (nothing-on card Driver i i.driver present.driver driver not_first) ∙ nothing-on card CoDriver i i.codriver present.codriver codriver not_second))
    (this-or_not present.codriver card))
    (this-or_not present.driver card)
