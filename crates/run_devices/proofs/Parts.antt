-- All that is carried, of one card and of the other; and the string of a card by its images.
use Rattle.std.proofs.Common.{◌≡◌, ◌≢◌, ℕ, suc, max, ◌≤◌, true, false, Option, Some, None, is_some, List, [], ◌++◌, All, Contains, refl, ap, subst, ◌∙◌, sym, arith}
use Rattle.std.specs.Prelude.{option_to_list}
use Rattle.std.proofs.lemmas.List.Elements.{All-nil}
use Rattle.device_calls.specs.activity_codec.declared.entries.Entry.{Entry}
use Rattle.device_calls.specs.trace_model.declared.Card.{Card}
use Rattle.device_calls.specs.trace_model.declared.Card.TheVariants.{A, B}
use Rattle.tach_media.specs.Medium.{State, IsCoherent}
use Rattle.run_crew.specs.log_model.declared.lines.Mark.{Mark}
use Rattle.device_calls.specs.card_retention.Retains.{Rise}
use Rattle.device_calls.specs.card_image.Own.{own_view, own_sizes, IsOwnValid}
use Rattle.device_calls.specs.card_string.Since.{HoldsSince}
use Rattle.device_calls.specs.card_string.Each.{KeepsSince}
use Rattle.device_calls.specs.history_model.Minutes.{HistoryMinute, card_history}
use Rattle.device_calls.specs.history_model.Presence.{CardStart}
use Rattle.device_calls.specs.hand_model.Written.{Hands}
use Rattle.device_calls.specs.history_model.Book.{Book}
use Rattle.device_calls.proofs.history_model.Books.{history-none}
use Rattle.device_calls.specs.device_rule.Views.{UnitView, other}
use Rattle.device_calls.specs.device_rule.Rules.{Standing, since, CardDark, CardRule}
use Rattle.device_calls.specs.device_rule.Marked.{of_card, HasBrought}
use Rattle.device_calls.specs.unit_rule.Safe.{Devices, card_of}
use Rattle.device_calls.specs.unit_rule.Rule.{Started, once_mended}
use Rattle.device_calls.specs.unit_rule.Marks.{UnitFollowsBook}
use Rattle.device_calls.specs.Rule.{Both, CardHolds, CardRests}
use Rattle.run_crew.specs.declared.cards.Accepted.{Accepted}
use Rattle.run_crew.specs.declared.cards.Cards.{Cards}
use Rattle.run_crew.specs.Cards.{session_of}
use Rattle.device_calls.proofs.unit_rule.Marking.{holds-dark}
use Rattle.run_promise.specs.Found.{CardFound, Found, found_of, unit_seen, AnyKept}
use Rattle.run_promise.specs.Cards.{brought_by, FirstKeep, HandMarksHold, CardMarksHold, IsStrung}
use Rattle.run_promise.specs.Between.{RunLedger, LedgerStandsPowered, LedgerStands, devices}
use Rattle.run_devices.specs.Strung.{CardHoldsString, EachIsStrung}
use Rattle.run_devices.proofs.Strung.{strung}
use Rattle.run_promise.proofs.Stays.{stays, adds-none}
use Rattle.run_devices.specs.Told.{AreFoundCards, sure_of, CardHoldsStringUnpowered, AllWait, GoesOwing, owes_nothing, AllGo, IsLitWith, IsLitOwing, DevicesPowered, DevicesUnpowered, arranged, for_card}

-- ---- the rules of the steps are those of a run

-- both cards as the steps see them
abbrev pub both_of : (f : Found) → f.card_a.number ≢ f.card_b.number → Both
both_of f two = record {
  card_a = record { number = f.card_a.number; start = f.card_a.start; began = f.card_a.began };
  card_b = record { number = f.card_b.number; start = f.card_b.start; began = f.card_b.began };
  two = two;
}

pub as-steps : (f : Found) (two : f.card_a.number ≢ f.card_b.number) (c : Card) (b : Book) (z : Standing) (mine due : List Entry) (U X : State)
    → CardRule c (found_of f c).start AnyKept (found_of f c).began b z mine due (unit_seen f U) (of_card X) → CardHolds (both_of f two) c b z mine due U X
as-steps f two A b z mine due U X rule = rule
as-steps f two B b z mine due U X rule = rule

pub of-steps : (f : Found) (two : f.card_a.number ≢ f.card_b.number) (c : Card) (b : Book) (z : Standing) (mine due : List Entry) (U X : State)
    → CardHolds (both_of f two) c b z mine due U X → CardRule c (found_of f c).start AnyKept (found_of f c).began b z mine due (unit_seen f U) (of_card X)
of-steps f two A b z mine due U X rule = rule
of-steps f two B b z mine due U X rule = rule

pub as-rests : (f : Found) (two : f.card_a.number ≢ f.card_b.number) (c : Card) (b : Book) (z : Standing) (U X : State)
    → CardDark c (found_of f c).start AnyKept (found_of f c).began b z (unit_seen f U) (of_card X) → CardRests (both_of f two) c b z U X
as-rests f two A b z U X rests = rests
as-rests f two B b z U X rests = rests

pub of-rests : (f : Found) (two : f.card_a.number ≢ f.card_b.number) (c : Card) (b : Book) (z : Standing) (U X : State)
    → CardRests (both_of f two) c b z U X → CardDark c (found_of f c).start AnyKept (found_of f c).began b z (unit_seen f U) (of_card X)
of-rests f two A b z U X rests = rests
of-rests f two B b z U X rests = rests

-- ---- an image that is told

pub told-one : (o : Option (List ℕ)) → is_some o ≡ true → (x : List ℕ) × (o ≡ Some x)
told-one (Some x) is = (x, refl)
told-one None is = absurd (empty is)
  where
    empty : false ≡ true → ⊥
    empty e = cc

pub left-one : (s : State) → IsCoherent s → is_some s.image ≡ true → (x : List ℕ) × s.may_leave x
left-one s whole tells = let one = told-one s.image tells in (one.0, whole.is_left one.0 one.1)

-- ---- THE STRING

-- by the entries alone
pub held-same : (f : CardFound) (hd : Hands) (c : Card) (b d : Book) (z : Standing) (X : State) → brought_by c f.start b ≡ brought_by c f.start d → CardHoldsString f hd c b z X → CardHoldsString f hd c d z X
held-same f hd c b d z X same h = record {
  tells = h.tells;
  now = λ x there. subst (λ (es : List Entry). (own_sizes x ≡ own_sizes f.image) × HoldsSince (own_sizes f.image) f.image hd es (suc (max f.start.word (since z (own_view x).newest))) x) same (h.now x there);
  since = λ x left. subst (λ (es : List Entry). (own_sizes x ≡ own_sizes f.image) × KeepsSince f.image hd.given es x) same (h.since x left);
  told = h.told;
  behind = h.behind;
  stay = h.stay;
  number = h.number;
  still = h.still;
  registered = h.registered;
}

-- a book that has no minute but the sure ones
pub sure-same : (c : Card) (start : CardStart) (b : Book) → b.maybe ≡ None → brought_by c start b ≡ brought_by c start (sure_of b)
sure-same c start b none = ap (λ (o : Option HistoryMinute). start.owed ++ card_history c (b.sure ++ option_to_list o)) none

none-comes : (P : Entry → Type 0) (c : Card) (b : Book) → b.maybe ≡ None → All P (card_history c (option_to_list b.maybe))
none-comes P c b none = subst (All P) (sym (ap (λ (o : Option HistoryMinute). card_history c (option_to_list o)) none ∙ history-none c)) (All-nil P)

pub held-dark : (f : CardFound) (hd : Hands) (c : Card) (b : Book) (z : Standing) (X : State) → b.maybe ≡ None → CardHoldsString f hd c b z X → CardHoldsStringUnpowered f hd c b z X
held-dark f hd c b z X none h = record {
  held = held-same f hd c b (sure_of b) z X (sure-same c f.start b none) h;
  comes = λ x there. none-comes (λ (e : Entry). suc (max f.start.word (since z (own_view x).newest)) ≤ e.minute) c b none;
}

pub held-lit : (f : CardFound) (hd : Hands) (c : Card) (b : Book) (z : Standing) (X : State) → b.maybe ≡ None → CardHoldsStringUnpowered f hd c b z X → CardHoldsString f hd c b z X
held-lit f hd c b z X none h = held-same f hd c (sure_of b) b z X (sym (sure-same c f.start b none)) h.held

-- ---- ALL THAT IS CARRIED, from its parts

module _ (f : Found) (w : RunLedger) (cards : Cards) (d : Devices) (found : AreFoundCards f cards) where
  sure-here : (s : Started) (due : ℕ) (b : Book) (marks : List Mark) (U : State) → UnitFollowsBook s due b marks U → (u : UnitView) → (unit_seen f U).may_leave u → All (λ (i : HistoryMinute). i.minute ≤ u.last) b.sure
  sure-here s due b marks U h u on = ((h.unit_holds f.card_a.number f.card_b.number).now u on).sure

  module _ (none : w.book.maybe ≡ None) (unit : UnitFollowsBook f.unit w.due w.book w.marks d.unit) where
    pub strung-of : (c : Card) (z : Standing) (X : State) → IsOwnValid (found_of f c).image → CardHoldsString (found_of f c) (w.hands c) c w.book z X → ((x : List ℕ) → X.left_since (found_of f c).began x → IsOwnValid x) → Rise (brought_by c (found_of f c).start w.book)
        → CardDark c (found_of f c).start AnyKept (found_of f c).began w.book z (unit_seen f d.unit) (of_card X) → EachIsStrung f (w.hands c) c w.book z d.unit X
    strung-of c z X valid held each rises rests = record {
      sizes = found.sizes c valid;
      entries = found.entries c valid;
      held = held;
      valid = each;
      rises = rises;
      none = none;
      sure = sure-here f.unit w.due w.book w.marks d.unit unit;
      rests = rests;
    }

  -- whatever is put or owed
  pub strung-with : (puts owes : Card → List Entry) → IsLitWith f w puts owes d → (c : Card) → IsOwnValid (found_of f c).image → CardHoldsString (found_of f c) (w.hands c) c w.book (w.standing c) (card_of d c) → IsStrung f (w.hands c) c w.book (w.standing c) d.unit (card_of d c)
  strung-with puts owes lit c valid held =
      strung f (w.hands c) c w.book (w.standing c) d.unit (card_of d c) (strung-of lit.none (holds-dark f.unit w.due w.book w.marks d.unit lit.unit) c (w.standing c) (card_of d c) valid held (lit.valid c valid) (lit.rises c valid) (lit.rules c valid).dark)

  -- while nothing is put and nothing owed
  pub lit-of : IsLitOwing f w owes_nothing d → AllGo f w owes_nothing cards d → LedgerStandsPowered f w d
  lit-of lit go = record {
    tells = lit.tells;
    works = lit.works;
    unit = lit.unit;
    none = lit.none;
    cards = λ c valid.
        let s = strung-with owes_nothing owes_nothing lit c valid (go.held c valid) in
        record { holds = lit.rules c valid; string = s.string; comes = s.comes; brought = lit.brought c valid };
    marks = lit.marks;
    hands = lit.hands;
  }

  -- whatever is put or owed
  pub carried-of : (puts owes : Card → List Entry) → IsLitWith f w puts owes d → AllGo f w owes cards d → LedgerStands f w d
  carried-of puts owes lit go = record {
    tells = lit.tells;
    unit = holds-dark f.unit w.due w.book w.marks d.unit lit.unit;
    cards = λ c valid.
        let s = strung-with puts owes lit c valid (go.held c valid) in
        record { rests = (lit.rules c valid).dark; string = s.string; comes = s.comes; brought = lit.brought c valid };
    marks = lit.marks;
    hands = lit.hands;
  }

  pub wait-of : (owes : Card → List Entry) → w.book.maybe ≡ None → AllGo f w owes cards d → AllWait f w d
  wait-of owes none go = λ c valid. held-dark (found_of f c) (w.hands c) c w.book (w.standing c) (card_of d c) none (go.held c valid)

pub owing-of : (f : Found) (w : RunLedger) (d : Devices) → LedgerStandsPowered f w d → IsLitOwing f w owes_nothing d
owing-of f w d lit = record {
  tells = lit.tells;
  works = lit.works;
  unit = lit.unit;
  none = lit.none;
  rules = λ c valid. (lit.cards c valid).holds;
  valid = λ c valid. (lit.cards c valid).string.valid;
  rises = λ c valid. (lit.cards c valid).string.rises;
  brought = λ c valid. (lit.cards c valid).brought;
  marks = lit.marks;
  hands = lit.hands;
}

-- POWER IS LOST: nothing of what is carried is
pub power-lost : (f : Found) (w : RunLedger) (cards : Cards) (d : Devices) → AreFoundCards f cards → DevicesPowered f w cards d → DevicesUnpowered f w d
power-lost f w cards d found powered = record {
  carried = carried-of f w cards d found owes_nothing owes_nothing (owing-of f w d powered.lit) powered.go;
  wait = wait-of f w cards d found owes_nothing powered.lit.none powered.go;
}

-- ---- ONE CARD AND THE OTHER

-- of the unit
pub record UnitLit (f : Found) (w : RunLedger) (U : State) : Type 0 where
  pub tells : is_some U.image ≡ true
  pub works : U.works ≡ true
  pub unit : UnitFollowsBook (once_mended f.unit) w.due w.book w.marks U
  pub none : w.book.maybe ≡ None

-- of a card that was valid, as it stands and with what was brought, while the unit has power and nothing is owed
pub record CardLit (f : Found) (b : Book) (z : Standing) (hd : Hands) (firsts : List FirstKeep) (ks : List ℕ) (session : Option Accepted) (c : Card) (U X : State) : Type 0 where
  pub rule : CardRule c (found_of f c).start AnyKept (found_of f c).began b z [] [] (unit_seen f U) (of_card X)
  pub valid : (x : List ℕ) → X.left_since (found_of f c).began x → IsOwnValid x
  pub rises : Rise (brought_by c (found_of f c).start b)
  pub brought : (k : ℕ) → Contains ks k → HasBrought f.card_a.number f.card_b.number c k U X
  pub held : CardHoldsString (found_of f c) hd c b z X
  pub hands : HandMarksHold (found_of f c) hd firsts X
  pub goes : GoesOwing (found_of f c) hd c b [] z session X

-- and where it has none
pub record CardOff (f : Found) (b : Book) (z : Standing) (hd : Hands) (firsts : List FirstKeep) (ks : List ℕ) (c : Card) (U X : State) : Type 0 where
  pub rests : CardDark c (found_of f c).start AnyKept (found_of f c).began b z (unit_seen f U) (of_card X)
  pub valid : (x : List ℕ) → X.left_since (found_of f c).began x → IsOwnValid x
  pub rises : Rise (brought_by c (found_of f c).start b)
  pub brought : (k : ℕ) → Contains ks k → HasBrought f.card_a.number f.card_b.number c k U X
  pub held : CardHoldsString (found_of f c) hd c b z X
  pub hands : HandMarksHold (found_of f c) hd firsts X

pub off-of : (f : Found) (b : Book) (z : Standing) (hd : Hands) (firsts : List FirstKeep) (ks : List ℕ) (session : Option Accepted) (c : Card) (U X : State) → CardLit f b z hd firsts ks session c U X → CardOff f b z hd firsts ks c U X
off-of f b z hd firsts ks session c U X one = record { rests = one.rule.dark; valid = one.valid; rises = one.rises; brought = one.brought; held = one.held; hands = one.hands }

abbrev pub MarksLit : (f : Found) (w : RunLedger) (c : Card) (X : State) → Type 0
MarksLit f w c X = CardMarksHold (found_of f c) c w.book w.marks X

-- all of it, by the card that a call is about
pub record AreParts (f : Found) (w : RunLedger) (cards : Cards) (c : Card) (U X Y : State) : Type 0 where
  pub unit : UnitLit f w U
  pub mine : IsOwnValid (found_of f c).image → CardLit f w.book (w.standing c) (w.hands c) (w.firsts c) (w.brought c) (session_of cards c) c U X
  pub others : IsOwnValid (found_of f (other c)).image → CardLit f w.book (w.standing (other c)) (w.hands (other c)) (w.firsts (other c)) (w.brought (other c)) (session_of cards (other c)) (other c) U Y
  pub marks_mine : MarksLit f w c X
  pub marks_others : MarksLit f w (other c) Y

pub record AreOff (f : Found) (w : RunLedger) (c : Card) (U X Y : State) : Type 0 where
  pub tells : is_some U.image ≡ true
  pub unit : UnitFollowsBook f.unit w.due w.book w.marks U
  pub none : w.book.maybe ≡ None
  pub mine : IsOwnValid (found_of f c).image → CardOff f w.book (w.standing c) (w.hands c) (w.firsts c) (w.brought c) c U X
  pub others : IsOwnValid (found_of f (other c)).image → CardOff f w.book (w.standing (other c)) (w.hands (other c)) (w.firsts (other c)) (w.brought (other c)) (other c) U Y
  pub marks_mine : MarksLit f w c X
  pub marks_others : MarksLit f w (other c) Y

one-lit : (f : Found) (w : RunLedger) (cards : Cards) (d : Devices) → DevicesPowered f w cards d → (c : Card) → IsOwnValid (found_of f c).image → CardLit f w.book (w.standing c) (w.hands c) (w.firsts c) (w.brought c) (session_of cards c) c d.unit (card_of d c)
one-lit f w cards d p c valid = record {
  rule = (p.lit.cards c valid).holds;
  valid = (p.lit.cards c valid).string.valid;
  rises = (p.lit.cards c valid).string.rises;
  brought = (p.lit.cards c valid).brought;
  held = p.go.held c valid;
  hands = p.lit.hands c valid;
  goes = p.go.goes c valid;
}

unit-lit : (f : Found) (w : RunLedger) (d : Devices) → LedgerStandsPowered f w d → UnitLit f w d.unit
unit-lit f w d lit = record { tells = lit.tells; works = lit.works; unit = lit.unit; none = lit.none }

pub parts-of : (f : Found) (w : RunLedger) (cards : Cards) (c : Card) (U X Y : State) → DevicesPowered f w cards (arranged c U X Y) → AreParts f w cards c U X Y
parts-of f w cards A U X Y p = record {
  unit = unit-lit f w (devices U X Y) p.lit;
  mine = one-lit f w cards (devices U X Y) p A;
  others = one-lit f w cards (devices U X Y) p B;
  marks_mine = p.lit.marks A;
  marks_others = p.lit.marks B;
}
parts-of f w cards B U X Y p = record {
  unit = unit-lit f w (devices U Y X) p.lit;
  mine = one-lit f w cards (devices U Y X) p B;
  others = one-lit f w cards (devices U Y X) p A;
  marks_mine = p.lit.marks B;
  marks_others = p.lit.marks A;
}

whole-lit : (f : Found) (w : RunLedger) (cards : Cards) (d : Devices) → AreFoundCards f cards → UnitLit f w d.unit → ((c : Card) → IsOwnValid (found_of f c).image → CardLit f w.book (w.standing c) (w.hands c) (w.firsts c) (w.brought c) (session_of cards c) c d.unit (card_of d c)) → ((c : Card) → MarksLit f w c (card_of d c)) → DevicesPowered f w cards d
whole-lit f w cards d found unit one marks =
    let go : AllGo f w owes_nothing cards d = record { held = λ c valid. (one c valid).held; goes = λ c valid. (one c valid).goes } in
    record {
      lit = lit-of f w cards d found (record {
        tells = unit.tells;
        works = unit.works;
        unit = unit.unit;
        none = unit.none;
        rules = λ c valid. (one c valid).rule;
        valid = λ c valid. (one c valid).valid;
        rises = λ c valid. (one c valid).rises;
        brought = λ c valid. (one c valid).brought;
        marks = marks;
        hands = λ c valid. (one c valid).hands;
      }) go;
      go = go;
    }

pub powered-of : (f : Found) (w : RunLedger) (cards : Cards) (c : Card) (U X Y : State) → AreFoundCards f cards → AreParts f w cards c U X Y → DevicesPowered f w cards (arranged c U X Y)
powered-of f w cards A U X Y found p = whole-lit f w cards (devices U X Y) found p.unit one marks
  where
    one : (c : Card) → IsOwnValid (found_of f c).image → CardLit f w.book (w.standing c) (w.hands c) (w.firsts c) (w.brought c) (session_of cards c) c U (card_of (devices U X Y) c)
    one A = p.mine
    one B = p.others

    marks : (c : Card) → MarksLit f w c (card_of (devices U X Y) c)
    marks A = p.marks_mine
    marks B = p.marks_others
powered-of f w cards B U X Y found p = whole-lit f w cards (devices U Y X) found p.unit one marks
  where
    one : (c : Card) → IsOwnValid (found_of f c).image → CardLit f w.book (w.standing c) (w.hands c) (w.firsts c) (w.brought c) (session_of cards c) c U (card_of (devices U Y X) c)
    one A = p.others
    one B = p.mine

    marks : (c : Card) → MarksLit f w c (card_of (devices U Y X) c)
    marks A = p.marks_others
    marks B = p.marks_mine

whole-off : (f : Found) (w : RunLedger) (cards : Cards) (d : Devices) → AreFoundCards f cards → is_some d.unit.image ≡ true → UnitFollowsBook f.unit w.due w.book w.marks d.unit → w.book.maybe ≡ None → ((c : Card) → IsOwnValid (found_of f c).image → CardOff f w.book (w.standing c) (w.hands c) (w.firsts c) (w.brought c) c d.unit (card_of d c))
    → ((c : Card) → MarksLit f w c (card_of d c)) → DevicesUnpowered f w d
whole-off f w cards d found tells unit none one marks = record {
  carried = record {
    tells = tells;
    unit = unit;
    cards = λ c valid.
        let o = one c valid in
        let s = strung f (w.hands c) c w.book (w.standing c) d.unit (card_of d c) (strung-of f w cards d found none unit c (w.standing c) (card_of d c) valid o.held o.valid o.rises o.rests) in
        record { rests = o.rests; string = s.string; comes = s.comes; brought = o.brought };
    marks = marks;
    hands = λ c valid. (one c valid).hands;
  };
  wait = λ c valid. held-dark (found_of f c) (w.hands c) c w.book (w.standing c) (card_of d c) none (one c valid).held;
}

pub powerless-of : (f : Found) (w : RunLedger) (cards : Cards) (c : Card) (U X Y : State) → AreFoundCards f cards → AreOff f w c U X Y → DevicesUnpowered f w (arranged c U X Y)
powerless-of f w cards A U X Y found p = whole-off f w cards (devices U X Y) found p.tells p.unit p.none one marks
  where
    one : (c : Card) → IsOwnValid (found_of f c).image → CardOff f w.book (w.standing c) (w.hands c) (w.firsts c) (w.brought c) c U (card_of (devices U X Y) c)
    one A = p.mine
    one B = p.others

    marks : (c : Card) → MarksLit f w c (card_of (devices U X Y) c)
    marks A = p.marks_mine
    marks B = p.marks_others
powerless-of f w cards B U X Y found p = whole-off f w cards (devices U Y X) found p.tells p.unit p.none one marks
  where
    one : (c : Card) → IsOwnValid (found_of f c).image → CardOff f w.book (w.standing c) (w.hands c) (w.firsts c) (w.brought c) c U (card_of (devices U Y X) c)
    one A = p.others
    one B = p.mine

    marks : (c : Card) → MarksLit f w c (card_of (devices U Y X) c)
    marks A = p.marks_others
    marks B = p.marks_mine

-- ---- WHAT WAS BROUGHT stays where the rules hold again, over a step on the unit

pub brought-on : (f : Found) (c : Card) (k : ℕ) (b : Book) (y z : Standing) (s : Started) (due : ℕ) (marks : List Mark) (U V X : State) → IsCoherent U → is_some U.image ≡ true → UnitFollowsBook s due b marks U → b.maybe ≡ None
    → CardDark c (found_of f c).start AnyKept (found_of f c).began b y (unit_seen f U) (of_card X) → CardDark c (found_of f c).start AnyKept (found_of f c).began b z (unit_seen f V) (of_card X)
    → HasBrought f.card_a.number f.card_b.number c k U X → HasBrought f.card_a.number f.card_b.number c k V X
brought-on f c k b y z s due marks U V X whole tells h none before behind = stays f c k b b y z U X V X (record {
  some = left-one U whole tells;
  sure = λ u on. ((h.unit_holds f.card_a.number f.card_b.number).now u on).sure;
  before = before;
  behind = behind;
  rises = λ x there. (x, there, omega arith);
  adds = adds-none c (found_of f c).start k b none;
})

-- ---- one card has this, and the other what it had

pub at-card : {T : Type 0} (c : Card) (t : T) (had : Card → T) (P : T → Type 0) → P t → P (for_card c t had c)
at-card A t had P p = p
at-card B t had P p = p

pub at-other : {T : Type 0} (c : Card) (t : T) (had : Card → T) (P : T → Type 0) → P (had (other c)) → P (for_card c t had (other c))
at-other A t had P p = p
at-other B t had P p = p
