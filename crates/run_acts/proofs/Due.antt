-- The minutes that are decided: they come one after another behind those that were given before.
use Rattle.std.proofs.Common.{◌≡◌, ℕ, zero, suc, ◌+◌, ◌-◌, ◌/◌, ◌<◌, ◌≤◌, List, [], ◌∷◌, ◌++◌, All, length, map, refl, ap, sym, ◌∙◌, arith}
use Rattle.std.proofs.lemmas.List.{map-append, append_cancel_left}
use Rattle.std.proofs.lemmas.List.Elements.{All-nil, All-cons, All-weaker}
use Rattle.unit_model.specs.minute_model.declared.Minute.{Minute}
use Rattle.unit_model.specs.minute_model.Span.{Span, count_from, end_of, ungiven_of, decided_in, AreNumbered, AreSettled}
use Rattle.unit_model.proofs.minute_model.Counted.{count_from-parts, decided-minutes, ungiven-most}
use Rattle.run_minutes.specs.Minutes.{AreDue, kept_after}
use Rattle.run_acts.specs.Going.{first_second, end_of_seconds}

-- these minutes come one after another from one on: what that says of them
record IsRun (u k kept : ℕ) (items : List Minute) : Type 0 where
  due : AreDue kept items
  last : kept_after kept items < u + k
  count : length items ≡ k
  from : All (λ (m : Minute). u ≤ m.minute) items
  before : All (λ (m : Minute). m.minute < u + k) items

lower : (u : ℕ) (items : List Minute) → All (λ (m : Minute). u + 1 ≤ m.minute) items → All (λ (m : Minute). u ≤ m.minute) items
lower u items all = All-weaker (λ (m : Minute). u + 1 ≤ m.minute) (λ (m : Minute). u ≤ m.minute) (λ m le. omega (arith, le)) items all

upper : (a b : ℕ) (items : List Minute) → a ≡ b → All (λ (m : Minute). m.minute < a) items → All (λ (m : Minute). m.minute < b) items
upper a b items is all = All-weaker (λ (m : Minute). m.minute < a) (λ (m : Minute). m.minute < b) (λ m le. omega (arith, le, is)) items all

rise : (items : List Minute) (u k kept : ℕ) → map (λ (m : Minute). m.minute) items ≡ count_from u k → kept < u → 1440 ≤ u → u + k ≤ 71581348 → IsRun u k kept items
rise [] u zero kept is late low small = record { due = tt; last = omega (arith, late); count = refl; from = All-nil (λ (m : Minute). u ≤ m.minute); before = All-nil (λ (m : Minute). m.minute < u + 0) }
rise [] u (suc k) kept is late low small = absurd (cc)
rise (m ∷ items) u zero kept is late low small = absurd (cc)
rise (m ∷ items) u (suc k) kept is late low small =
    let here : m.minute ≡ u = cc in
    let there : map (λ (m : Minute). m.minute) items ≡ count_from (u + 1) k = cc in
    let rest = rise items (u + 1) k m.minute there (omega (arith, here)) (omega (arith, low)) (omega (arith, small)) in
    record {
      due = (omega (arith, late, here), omega (arith, low, here), omega (arith, small, here), rest.due);
      last = let r = rest.last in omega (arith, r);
      count = ap suc rest.count;
      from = All-cons (λ (d : Minute). u ≤ d.minute) m items (omega (arith, here)) (lower u items rest.from);
      before = All-cons (λ (d : Minute). d.minute < u + suc k) m items (omega (arith, here)) (upper (u + 1 + k) (u + suc k) items (omega arith) rest.before);
    }

pub ungiven-least : (span : Span) → span.first / 60 ≤ ungiven_of span
ungiven-least span = omega arith

-- what is decided between a span so far and the same later
pub record Decides (u later kept : ℕ) (items : List Minute) : Type 0 where
  pub due : AreDue kept items
  pub last : kept_after kept items < later
  pub count : u + length items ≡ later
  pub from : All (λ (m : Minute). u ≤ m.minute) items
  pub before : All (λ (m : Minute). m.minute < later) items

pub decides : (span later : Span) (kept : ℕ) (items : List Minute) → later.first ≡ span.first → AreNumbered span.first span.seconds → AreSettled span → AreNumbered later.first later.seconds → AreSettled later
    → ungiven_of span ≤ ungiven_of later → decided_in later ≡ decided_in span ++ items → kept < ungiven_of span → first_second ≤ span.first → end_of later ≤ end_of_seconds
    → Decides (ungiven_of span) (ungiven_of later) kept items
decides span later kept items firsts numbered settled numbered_later settled_later more given late low small =
    let u = ungiven_of span in
    let f = span.first / 60 in
    let least : f ≤ u = ungiven-least span in
    let end : ungiven_of later ≤ end_of later / 60 = ungiven-most later settled_later in
    let k : ℕ = ungiven_of later - u in
    let whole : map (λ (m : Minute). m.minute) (decided_in later) ≡ count_from f (ungiven_of later - f) =
    decided-minutes later numbered_later settled_later ∙ ap (λ (a : ℕ). count_from (a / 60) (ungiven_of later - a / 60)) firsts in
    let parts : count_from f (ungiven_of later - f) ≡ count_from f (u - f) ++ count_from u k =
    ap (count_from f) (let e : ungiven_of later - f ≡ (u - f) + k = omega (arith, least, more) in e) ∙ count_from-parts f (u - f) k ∙ ap (λ (a : ℕ). count_from f (u - f) ++ count_from a k) (let e : f + (u - f) ≡ u = omega (arith, least) in e) in
    let mine : map (λ (m : Minute). m.minute) items ≡ count_from u k =
    append_cancel_left (count_from f (u - f)) (map (λ (m : Minute). m.minute) items) (count_from u k)
    (ap (λ (xs : List ℕ). xs ++ map (λ (m : Minute). m.minute) items) (sym (decided-minutes span numbered settled)) ∙ sym (map-append (λ (m : Minute). m.minute) (decided_in span) items) ∙ ap (map (λ (m : Minute). m.minute)) (sym given) ∙ whole ∙ parts) in
    let all = rise items u k kept mine late (omega (arith, least, low)) (omega (arith, more, end, small)) in
    let sum : u + k ≡ ungiven_of later = omega (arith, more) in
    record {
      due = all.due;
      last = let r = all.last in omega (arith, r, sum);
      count = let l = all.count in omega (arith, l, sum);
      from = all.from;
      before = upper (u + k) (ungiven_of later) items sum all.before;
    }
