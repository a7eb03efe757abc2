-- A card that was present in a minute and did not leave since sits in its slot, with an earlier newest minute: call by call.
use Rattle.std.proofs.Common.{◌≡◌, ◌∙◌, ◌⊎◌, inl, inr, ℕ, ◌+◌, ◌/◌, ◌<◌, ◌≤◌, Bool, true, false, cond, Option, Some, None, IfSome, List, [], ◌∷◌, refl, sym, ap, subst, arith, take, All}
use Rattle.std.specs.Prelude.{nat_eq, not, ◌&&◌}
use Rattle.std.proofs.lemmas.Bool.{eqb-true, ltb-true}
use Rattle.std.proofs.lemmas.List.Elements.{All-nil, All-cons, All-head, All-tail, All-take, All-weaker}
use Rattle.activity_codec.specs.declared.values.Slot.{Slot}
use Rattle.activity_codec.specs.declared.values.Slot.TheVariants.{Driver, CoDriver}
use Rattle.trace_model.specs.declared.Card.{Card}
use Rattle.trace_model.specs.declared.Card.TheVariants.{A, B}
use Rattle.card_slots.specs.declared.seats.Seat.{Seat}
use Rattle.card_slots.specs.declared.seats.Ended.{Ended}
use Rattle.card_slots.specs.declared.seats.Lefts.{Lefts}
use Rattle.card_slots.specs.declared.seats.Present.{Present}
use Rattle.card_slots.specs.Calls.{Seats, seat_in, with_seat, powerless, is_earlier, present_of, present_in}
use Rattle.card_slots.specs.Kept.{Kept, IsFree, left_in, left_of, with_left, nothing_yet, put_in, taken, cut_off, minute_ended, SitsSince, SitStill, KnowsNewest}

-- a card did not leave after a minute
abbrev Stayed : Lefts → Card → ℕ → Type 0
Stayed left card minute = IfSome (left_of left card) (λ l. l ≤ minute)

-- what keeps each card that stayed in its slot
module _ (kept now : Kept) (m : ℕ) (lefts : (card : Card) → Stayed now.left card m → Stayed kept.left card m) where
  still : (slot : Slot) (o : Option Card)
      → ((card : Card) (newest : ℕ) → Stayed now.left card m → seat_in kept.seats slot ≡ Some (record { card = card; newest = Some newest }) → seat_in now.seats slot ≡ Some (record { card = card; newest = Some newest }))
      → SitsSince kept slot m o → SitsSince now slot m o
  still slot None seats sits = tt
  still slot (Some card) seats sits = λ stayed. let was = sits (lefts card stayed) in (was.0, seats card was.0 stayed was.1, was.2)

  both : ((slot : Slot) (card : Card) (newest : ℕ) → Stayed now.left card m → seat_in kept.seats slot ≡ Some (record { card = card; newest = Some newest }) → seat_in now.seats slot ≡ Some (record { card = card; newest = Some newest }))
      → (p : Present) → SitStill kept m p → SitStill now m p
  both seats p sit = record { driver = still Driver p.driver (seats Driver) sit.driver; codriver = still CoDriver p.codriver (seats CoDriver) sit.codriver }

-- a card that stayed although the one of a slot leaves later had stayed before, and is not that one
left_before : (q m : ℕ) (seat : Option Seat) (left : Lefts) (card : Card) → m < q → Stayed (with_left q seat left) card m → Stayed left card m
left_before q m None left card less stayed = stayed
left_before q m (Some seat) left card less stayed = by seat.card card stayed
  where
    by : (c card : Card) → Stayed (with_left q (Some (record { card = c; newest = seat.newest })) left) card m → Stayed left card m
    by A A late = absurd (omega (arith, late, less))
    by A B same = same
    by B A same = same
    by B B late = absurd (omega (arith, late, less))

gone : (q m : ℕ) (seat : Option Seat) (left : Lefts) (card : Card) (newest : ℕ) → m < q → seat ≡ Some (record { card = card; newest = Some newest }) → Stayed (with_left q seat left) card m → ⊥
gone q m seat left card newest less is stayed = own card (subst (λ (s : Option Seat). Stayed (with_left q s left) card m) is stayed)
  where
    own : (c : Card) → Stayed (with_left q (Some (record { card = c; newest = Some newest })) left) c m → ⊥
    own A late = omega (arith, late, less)
    own B late = omega (arith, late, less)

pub new-knows : KnowsNewest nothing_yet
new-knows = record { over = All-nil (λ (e : Ended). e.minute < 0); sit = All-nil (λ (e : Ended). SitStill nothing_yet e.minute e.present) }

pub knows-by-value : (now same : Kept) → KnowsNewest same → now ≡ same → KnowsNewest now
knows-by-value now same knows is = rw is knows

-- the newest minute of a seat
abbrev newest_in : Option Seat → Option ℕ
newest_in None = None
newest_in (Some seat) = seat.newest

not_bare : (o : Option Seat) (card c : Card) (n : ℕ) → o ≡ Some (record { card = c; newest = Some n }) → (o ≡ None) ⊎ (o ≡ Some (record { card = card; newest = None })) → ⊥
not_bare o card c n is (inl none) = absurd (cc)
not_bare o card c n is (inr bare) = let e : Some n ≡ None = ap newest_in (sym is ∙ bare) in absurd (cc)

put_seat : (seats : Seats) (slot at : Slot) (card c : Card) (newest : Option ℕ) (n : ℕ)
    → (seat_in seats slot ≡ None) ⊎ (seat_in seats slot ≡ Some (record { card = card; newest = None })) → seat_in seats at ≡ Some (record { card = c; newest = Some n })
    → seat_in (with_seat seats slot (Some (record { card = card; newest = newest }))) at ≡ Some (record { card = c; newest = Some n })
put_seat seats Driver Driver card c newest n free is = absurd (not_bare seats.driver card c n is free)
put_seat seats Driver CoDriver card c newest n free is = is
put_seat seats CoDriver Driver card c newest n free is = is
put_seat seats CoDriver CoDriver card c newest n free is = absurd (not_bare seats.codriver card c n is free)

pub put-knows : (kept : Kept) (slot : Slot) (card : Card) (newest : Option ℕ) → IsFree kept.seats slot card → KnowsNewest kept → KnowsNewest (put_in slot card newest kept)
put-knows kept slot card newest free knows =
    let now : Kept = put_in slot card newest kept in
    record {
      over = knows.over;
      sit =
          All-weaker (λ (e : Ended). SitStill kept e.minute e.present) (λ (e : Ended). SitStill now e.minute e.present)
          (λ e sit. both kept now e.minute (λ c stayed. stayed) (λ at c n stayed is. put_seat kept.seats slot at card c newest n free.here is) e.present sit) kept.past knows.sit;
    }

-- of a minute that is over before a call speaks of a later one
module _ (kept now : Kept) (from : kept.minute ≤ now.minute) (past : now.past ≡ kept.past) where
  moved : ((e : Ended) → e.minute < now.minute → SitStill kept e.minute e.present → SitStill now e.minute e.present) → KnowsNewest kept → KnowsNewest now
  moved each knows =
      let over : All (λ (e : Ended). e.minute < now.minute) kept.past = All-weaker (λ (e : Ended). e.minute < kept.minute) (λ (e : Ended). e.minute < now.minute) (λ e less. omega (arith, less, from)) kept.past knows.over in
      record {
        over = subst (λ (es : List Ended). All (λ (e : Ended). e.minute < now.minute) es) (sym past) over;
        sit = subst (λ (es : List Ended). All (λ (e : Ended). SitStill now e.minute e.present) es) (sym past) (sits kept.past over knows.sit);
      }
    where
      sits : (es : List Ended) → All (λ (e : Ended). e.minute < now.minute) es → All (λ (e : Ended). SitStill kept e.minute e.present) es → All (λ (e : Ended). SitStill now e.minute e.present) es
      sits [] over sit = All-nil (λ (e : Ended). SitStill now e.minute e.present)
      sits (e ∷ es) over sit =
          All-cons (λ (e : Ended). SitStill now e.minute e.present) e es
          (each e (All-head (λ (e : Ended). e.minute < now.minute) e es over) (All-head (λ (e : Ended). SitStill kept e.minute e.present) e es sit))
          (sits es (All-tail (λ (e : Ended). e.minute < now.minute) e es over) (All-tail (λ (e : Ended). SitStill kept e.minute e.present) e es sit))

take_seat : (q m : ℕ) (seats : Seats) (left : Lefts) (slot at : Slot) (c : Card) (n : ℕ) → m < q → Stayed (with_left q (seat_in seats slot) left) c m
    → seat_in seats at ≡ Some (record { card = c; newest = Some n }) → seat_in (with_seat seats slot None) at ≡ Some (record { card = c; newest = Some n })
take_seat q m seats left Driver Driver c n less stayed is = absurd (gone q m seats.driver left c n less is stayed)
take_seat q m seats left Driver CoDriver c n less stayed is = is
take_seat q m seats left CoDriver Driver c n less stayed is = is
take_seat q m seats left CoDriver CoDriver c n less stayed is = absurd (gone q m seats.codriver left c n less is stayed)

pub take-knows : (kept : Kept) (slot : Slot) (second : ℕ) → kept.minute ≤ second / 60 → KnowsNewest kept → KnowsNewest (taken slot second kept)
take-knows kept slot second from knows =
    let q : ℕ = second / 60 in
    moved kept (taken slot second kept) from refl
    (λ e less sit. both kept (taken slot second kept) e.minute (λ c stayed. left_before q e.minute (seat_in kept.seats slot) kept.left c less stayed)
    (λ at c n stayed is. take_seat q e.minute kept.seats kept.left slot at c n less stayed is) e.present sit) knows

cut_seat : (q m : ℕ) (seats : Seats) (left : Lefts) (at : Slot) (c : Card) (n : ℕ) → m < q → Stayed (with_left q seats.codriver (with_left q seats.driver left)) c m
    → seat_in seats at ≡ Some (record { card = c; newest = Some n }) → seat_in (record { driver = powerless seats.driver; codriver = powerless seats.codriver }) at ≡ Some (record { card = c; newest = Some n })
cut_seat q m seats left Driver c n less stayed is = absurd (gone q m seats.driver left c n less is (left_before q m seats.codriver (with_left q seats.driver left) c less stayed))
cut_seat q m seats left CoDriver c n less stayed is = absurd (gone q m seats.codriver (with_left q seats.driver left) c n less is stayed)

pub cut-knows : (kept : Kept) (second : ℕ) → kept.minute ≤ second / 60 → KnowsNewest kept → KnowsNewest (cut_off second kept)
cut-knows kept second from knows =
    let q : ℕ = second / 60 in
    moved kept (cut_off second kept) from refl
    (λ e less sit. both kept (cut_off second kept) e.minute
    (λ c stayed. left_before q e.minute kept.seats.driver kept.left c less (left_before q e.minute kept.seats.codriver (with_left q kept.seats.driver kept.left) c less stayed))
    (λ at c n stayed is. cut_seat q e.minute kept.seats kept.left at c n less stayed is) e.present sit) knows

-- a card that is present at a minute's end
and_true : (a b : Bool) → (a && b) ≡ true → a ≡ true
and_true true b is = refl
and_true false b is = cc

ended_sits : (now : Kept) (slot : Slot) (m : ℕ) (left : Card → ℕ → Bool) (o : Option Seat) → seat_in now.seats slot ≡ o → SitsSince now slot m (present_of left m o)
ended_sits now slot m left None is = tt
ended_sits now slot m left (Some seat) is = by (is_earlier seat.newest m && not (left seat.card m)) refl
  where
    early : (o : Option ℕ) → seat.newest ≡ o → is_earlier o m ≡ true → (newest : ℕ) × (seat_in now.seats slot ≡ Some (record { card = seat.card; newest = Some newest })) × (newest < m)
    early None told earlier = absurd (cc)
    early (Some n) told earlier = (n, is ∙ ap (λ (o : Option ℕ). Some (record { card = seat.card; newest = o })) told, ltb-true n m earlier)

    by : (b : Bool) → (is_earlier seat.newest m && not (left seat.card m)) ≡ b → SitsSince now slot m (cond b (Some seat.card) None)
    by false failed = tt
    by true passed = λ stayed. early seat.newest refl (and_true (is_earlier seat.newest m) (not (left seat.card m)) passed)

pub end-knows : (kept : Kept) (m : ℕ) → kept.minute ≤ m → KnowsNewest kept → KnowsNewest (minute_ended m kept)
end-knows kept m from knows =
    let now : Kept = minute_ended m kept in
    let ended : Ended = record { minute = m; present = record { driver = present_of (left_in kept.left) m kept.seats.driver; codriver = present_of (left_in kept.left) m kept.seats.codriver } } in
    record {
      over =
          All-cons (λ (e : Ended). e.minute < m + 1) ended (take 3 kept.past) (omega arith)
          (All-take (λ (e : Ended). e.minute < m + 1) 3 kept.past (All-weaker (λ (e : Ended). e.minute < kept.minute) (λ (e : Ended). e.minute < m + 1) (λ e less. omega (arith, less, from)) kept.past knows.over));
      sit =
          All-cons (λ (e : Ended). SitStill now e.minute e.present) ended (take 3 kept.past)
          (record { driver = ended_sits now Driver m (left_in kept.left) kept.seats.driver refl; codriver = ended_sits now CoDriver m (left_in kept.left) kept.seats.codriver refl })
          (All-take (λ (e : Ended). SitStill now e.minute e.present) 3 kept.past
          (All-weaker (λ (e : Ended). SitStill kept e.minute e.present) (λ (e : Ended). SitStill now e.minute e.present)
          (λ e sit. both kept now e.minute (λ c stayed. stayed) (λ at c n stayed is. is) e.present sit) kept.past knows.sit));
    }

-- what is found of a minute
pub found_sits : (kept : Kept) (m : ℕ) (p : Present) (past : List Ended) → All (λ e. SitStill kept e.minute e.present) past → Some p ≡ present_in past m → SitStill kept m p
found_sits kept m p [] sit is = absurd (cc)
found_sits kept m p (e ∷ past) sit is =
    by (λ at. found_sits kept m p past (All-tail (λ (e : Ended). SitStill kept e.minute e.present) e past sit) at) (nat_eq e.minute m) refl
  where
    by : (Some p ≡ present_in past m → SitStill kept m p) → (b : Bool) → nat_eq e.minute m ≡ b → SitStill kept m p
    by rest true here =
        let at : Some p ≡ Some e.present = rw here at is in
        let same : p ≡ e.present = cc in
        subst (λ (q : Present). SitStill kept m q) (sym same) (subst (λ (n : ℕ). SitStill kept n e.present) (eqb-true e.minute m here) (All-head (λ (e : Ended). SitStill kept e.minute e.present) e past sit))
    by rest false other = rest (rw other at is)
