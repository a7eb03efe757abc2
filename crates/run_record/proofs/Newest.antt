-- A mark of a card is of no later minute than its newest one, as its end mark trims it.
use Rattle.std.proofs.Common.{◌≡◌, ⊎_elim, suc, ◌≤◌, ◌%◌, Bool, true, false, cond, Option, Some, None, List, [], ◌∷◌, ◌++◌, Contains, ap, sym, subst, arith}
use Rattle.std.specs.Prelude.{nat_eq, max}
use Rattle.std.proofs.lemmas.List.Elements.{Contains-append_left, Contains-append_cases, Contains-push, Contains-push_cases}
use Rattle.std.proofs.Math.Nat.{le-max_right}
use Rattle.minute_rules.specs.activity_codec.declared.entries.Entry.{Entry}
use Rattle.minute_rules.specs.minute_model.Activity.{last}
use Rattle.run_devices.specs.trace_model.declared.Card.{Card}
use Rattle.tach_media.specs.Medium.{State}
use Rattle.run_devices.specs.log_model.declared.lines.Mark.{Mark}
use Rattle.run_devices.specs.card_retention.Retains.{Rise}
use Rattle.run_devices.specs.history_model.Minutes.{HistoryMinute, card_history}
use Rattle.run_devices.specs.history_model.Book.{Book}
use Rattle.run_devices.specs.history_model.Presence.{CardStart, closed_at, trimmed_by}
use Rattle.run_devices.proofs.history_model.Books.{all-none}
use Rattle.run_devices.proofs.device_rule.Pairs.{last-append}
use Rattle.run_devices.specs.run_promise.Found.{CardFound}
use Rattle.run_devices.specs.run_promise.Cards.{brought_by, IsCardHeld}

closed-least : (e : Entry) → e.minute ≤ closed_at (Some e)
closed-least e = by (nat_eq (suc e.minute % 1440) 0)
  where
    by : (b : Bool) → e.minute ≤ cond b e.minute (suc e.minute)
    by true = omega arith
    by false = omega arith

-- of entries that rise none is later than the last
last-most : (es : List Entry) → Rise es → (x : Entry) → Contains es x → x.minute ≤ closed_at (last es)
last-most [] rise x at = absurd (omega (arith, at.1))
last-most (e ∷ []) rise x at = ⊎_elim
    (λ none. absurd (omega (arith, none.1)))
    (λ (same : e ≡ x). subst (λ (y : Entry). y.minute ≤ closed_at (Some e)) same (closed-least e))
    (Contains-push_cases [] e x at)
last-most (e ∷ f ∷ es) rise x at = ⊎_elim
    (λ one. ⊎_elim
    (λ none. absurd (omega (arith, none.1)))
    (λ (same : e ≡ x).
    let next = last-most (f ∷ es) rise.1 f (Contains-append_left (f ∷ []) es f (Contains-push [] f)) in
    let lt = rise.0 in
    subst (λ (y : Entry). y.minute ≤ closed_at (last (f ∷ es))) same (omega (arith, next, lt)))
    (Contains-push_cases [] e x one))
    (λ rest. last-most (f ∷ es) rise.1 x rest)
    (Contains-append_cases (e ∷ []) (f ∷ es) x at)

trimmed-least : (st : CardStart) (es : List Entry) → Rise es → (x : Entry) → Contains es x → x.minute ≤ trimmed_by st (st.entries ++ es)
trimmed-least st [] rise x at = absurd (omega (arith, at.1))
trimmed-least st (y ∷ ys) rise x at =
    let same : trimmed_by st (st.entries ++ y ∷ ys) ≡ max st.mark (closed_at (last (y ∷ ys))) = ap (λ (o : Option Entry). max st.mark (closed_at o)) (last-append st.entries y ys) in
    let low = last-most (y ∷ ys) rise x at in
    let right = le-max_right st.mark (closed_at (last (y ∷ ys))) in
    omega (arith, same, low, right)

pub mark-trimmed : (f : CardFound) (c : Card) (b : Book) (card : State) (m : Mark) → b.maybe ≡ None → Rise (brought_by c f.start b) → IsCardHeld f c b card m → m.minute ≤ trimmed_by f.start (f.start.entries ++ brought_by c f.start b)
mark-trimmed f c b card m none rise held =
    let x = held.sure in
    let all_in : Contains (brought_by c f.start b) x.0 = subst (λ (is : List HistoryMinute). Contains (f.start.owed ++ card_history c is) x.0) (sym (all-none b none)) x.1 in
    let low = trimmed-least f.start (brought_by c f.start b) rise x.0 all_in in
    let same = x.2 in
    omega (arith, low, same)
