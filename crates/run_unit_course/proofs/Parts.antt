-- Parts of the steps: seconds in order, minutes that rise, books and histories over a change of the log.
use Rattle.std.proofs.Common.{◌≡◌, ◌⊎◌, inl, inr, ⊎_elim, ℕ, zero, suc, ◌+◌, ◌<◌, ◌≤◌, Bool, true, false, ◌||◌, nat_lt, List, [], ◌∷◌, ◌++◌, All, Contains, length, map, refl, ap, sym, subst, ◌∙◌, arith, append_assoc, append-nil}
use Rattle.std.specs.Prelude.{option_to_list}
use Rattle.std.specs.List.{AllByRecursion}
use Rattle.std.proofs.lemmas.List.Elements.{All-nil, All-cons, All-weaker, All-contains, Contains-push_cases, Contains-append_cases}
use Rattle.activity_codec.specs.declared.values.Slot.{Slot}
use Rattle.activity_codec.specs.declared.values.Pick.{Pick}
use Rattle.trace_model.specs.declared.Action.{Action}
use Rattle.trace_model.specs.Trace.{TraceSecond, driven, dark}
use Rattle.minute_model.specs.declared.Rule.{Rule}
use Rattle.log_model.specs.declared.lines.Break.{Break}
use Rattle.log_model.specs.Log.{RunLog}
use Rattle.log_model.specs.Course.{ToldSecond}
use Rattle.log_model.specs.Spans.{spans_of, AreInOrder}
use Rattle.history_model.specs.Minutes.{HistoryMinute}
use Rattle.history_model.specs.Presence.{Start}
use Rattle.history_model.specs.History.{decided_of, limit_of, any_long, history_by, lost_by, unit_history, with_lost}
use Rattle.history_model.specs.Growth.{closed_limit, closed_history, Rises}
use Rattle.history_model.specs.Book.{Book, all, found, Follows, AreLost, IsMark}
use Rattle.history_model.proofs.Closing.{history-parts, lost-parts, history-none, lost-none, history-long, lost-long, history-short, lost-short, agree-all}
use Rattle.run_unit_course.specs.Turn.{ArePlain, lit_seconds, dark_seconds, actions_of_last}
use Rattle.run_unit_course.specs.Lines.{tells_cut}
use Rattle.run_unit_course.specs.Keeping.{plain}
use Rattle.run_unit_course.specs.Followed.{IsKnown, closed_lost}
use Rattle.run_unit_course.proofs.Turns.{given_second}
use Rattle.run_unit_course.proofs.Alike.{minutes-plain}

-- SECONDS IN ORDER
pub order-behind : (n : ℕ) (xs ys : List TraceSecond) → AreInOrder n xs → AreInOrder (n + length xs) ys → AreInOrder n (xs ++ ys)
order-behind n [] ys h k = subst (λ (m : ℕ). AreInOrder m ys) (omega arith) k
order-behind n (x ∷ xs) ys h k = (h.0, order-behind (n + 1) xs ys h.1 (subst (λ (m : ℕ). AreInOrder m ys) (omega arith) k))

pub driven-order : (n number speed : ℕ) (actions : List Action) → AreInOrder number (driven n number speed actions)
driven-order zero number speed actions = tt
driven-order (suc n) number speed actions = (refl, driven-order n (number + 1) speed [])

pub driven-length : (n number speed : ℕ) (actions : List Action) → length (driven n number speed actions) ≡ n
driven-length zero number speed actions = refl
driven-length (suc n) number speed actions = ap suc (driven-length n (number + 1) speed [])

pub dark-order : (n number : ℕ) → AreInOrder number (dark n number)
dark-order zero number = tt
dark-order (suc n) number = (refl, dark-order n (number + 1))

pub dark-length : (n number : ℕ) → length (dark n number) ≡ n
dark-length zero number = refl
dark-length (suc n) number = ap suc (dark-length n (number + 1))

-- the last one
pub driven-last : (n number speed : ℕ) (actions : List Action) → driven (suc n) number speed actions ≡ driven n number speed actions ++ given_second (number + n) speed (actions_of_last (suc n) actions) ∷ []
driven-last zero number speed actions = let e : number ≡ number + zero = omega arith in ap (λ (m : ℕ). given_second m speed actions ∷ []) e
driven-last (suc zero) number speed actions = refl
driven-last (suc (suc n)) number speed actions =
    let e : number + 1 + suc n ≡ number + suc (suc n) = omega arith in
    ap (λ (ss : List TraceSecond). given_second number speed actions ∷ ss) (driven-last (suc n) (number + 1) speed [] ∙ ap (λ (m : ℕ). driven (suc n) (number + 1) speed [] ++ given_second m speed [] ∷ []) e)

-- SECONDS WITHOUT CARDS
pub plain-append : (xs ys : List ToldSecond) → ArePlain xs → ArePlain ys → ArePlain (xs ++ ys)
plain-append [] ys h k = k
plain-append (x ∷ xs) ys h k = (h.0, plain-append xs ys h.1 k)

pub plain-front : (xs ys : List ToldSecond) → ArePlain (xs ++ ys) → ArePlain xs
plain-front [] ys h = tt
plain-front (x ∷ xs) ys h = (h.0, plain-front xs ys h.1)

pub plain-lit : (n number speed : ℕ) (picks : List (Slot × Pick)) (starts : Bool) → ArePlain (lit_seconds n number speed picks starts)
plain-lit zero number speed picks starts = tt
plain-lit (suc n) number speed picks starts = ((refl, refl), plain-lit n (number + 1) speed [] false)

pub plain-dark : (n number speed : ℕ) (given : Bool) (actions : List Action) → ArePlain (dark_seconds n number speed given actions)
plain-dark zero number speed given actions = tt
plain-dark (suc n) number speed given actions = ((refl, refl), plain-dark n (number + 1) speed given [])

-- MINUTES THAT RISE: those behind are later
record Behind (a until : ℕ) (xs ys : List HistoryMinute) : Type 0 where
  at : ℕ
  from : a ≤ at
  before : All (λ i. i.minute < at) xs
  after : Rises at ys until

behind : (a until : ℕ) (xs ys : List HistoryMinute) → Rises a (xs ++ ys) until → Behind a until xs ys
behind a until [] ys h = record { at = a; from = omega arith; before = All-nil (λ (i : HistoryMinute). i.minute < a); after = h }
behind a until (x ∷ xs) ys h =
    let rest = behind (x.minute + 1) until xs ys h.1 in
    let here : a ≤ x.minute = h.0 in
    let later : x.minute + 1 ≤ rest.at = rest.from in
    record { at = rest.at; from = omega (arith, here, later); before = All-cons (λ (i : HistoryMinute). i.minute < rest.at) x xs (omega (arith, later)) rest.before; after = rest.after }

pub rising-all : (a until : ℕ) (ys : List HistoryMinute) → Rises a ys until → All (λ i. a ≤ i.minute) ys
rising-all a until [] h = All-nil (λ (i : HistoryMinute). a ≤ i.minute)
rising-all a until (y ∷ ys) h =
    let here : a ≤ y.minute = h.0 in
    All-cons (λ (i : HistoryMinute). a ≤ i.minute) y ys here (All-weaker (λ (i : HistoryMinute). y.minute + 1 ≤ i.minute) (λ i. a ≤ i.minute) (λ i le. omega (arith, here, le)) ys (rising-all (y.minute + 1) until ys h.1))

-- minutes behind a mark are later
pub beyond-mark : (first from until k : ℕ) (past rest : List HistoryMinute) → first < from → Rises from (past ++ rest) until → IsMark first past k → All (λ i. k < i.minute) rest
beyond-mark first from until k past rest early rises mark =
    let b = behind from until past rest rises in
    let later : from ≤ b.at = b.from in
    let low : k < b.at = ⊎_elim (λ (is : k ≡ first). omega (arith, is, early, later)) (λ m. let lt = All-contains (λ (i : HistoryMinute). i.minute < b.at) past m.0 b.before m.1 in let is = m.2 in omega (arith, lt, is)) mark in
    All-weaker (λ (i : HistoryMinute). b.at ≤ i.minute) (λ i. k < i.minute) (λ i le. omega (arith, le, low)) rest (rising-all b.at until rest b.after)

-- BOOKS
pub either-lost : (x : List HistoryMinute) (xs : List (List HistoryMinute)) (y : List HistoryMinute) → Contains (x ∷ xs) y → (x ≡ y) ⊎ Contains xs y
either-lost x xs y at = ⊎_elim (λ here. ⊎_elim (λ none. absurd (omega (arith, none.1))) (λ is. inl is) (Contains-push_cases [] x y here)) (λ there. inr there) (Contains-append_cases (x ∷ []) xs y at)

-- a book whose minutes stand in front, and what it lost among what was lost
pub follows-whole : (minutes rest : List HistoryMinute) (lost : List (List HistoryMinute)) (b : Book) → minutes ≡ all b ++ rest → AreLost lost b → Follows minutes lost b
follows-whole minutes rest lost b is gone = record {
  front = (rest, is);
  each = λ past at. ⊎_elim
      (λ f. inl (f.0 ++ (option_to_list b.maybe ++ rest), is ∙ append_assoc b.sure (option_to_list b.maybe) rest ∙ ap (λ (zs : List HistoryMinute). zs ++ (option_to_list b.maybe ++ rest)) f.1 ∙ append_assoc past f.0 (option_to_list b.maybe ++ rest)))
      (λ l. inr l) (gone past at);
}

pub follows-same : (minutes later : List HistoryMinute) (lost later_lost : List (List HistoryMinute)) (b : Book) → later ≡ minutes → later_lost ≡ lost → Follows minutes lost b → Follows later later_lost b
follows-same minutes later lost later_lost b is same f = subst (λ (is : List HistoryMinute). Follows is later_lost b) (sym is) (subst (λ (ls : List (List HistoryMinute)). Follows minutes ls b) (sym same) f)

-- SPANS, and others behind them that decided nothing
pub closed-behind : (rule : Rule) (start : Start) (log : RunLog) (told : List ToldSecond) (ended more : List (List ToldSecond)) → AllByRecursion (λ (span : List ToldSecond). decided_of rule span ≡ []) more →
    closed_history rule start log told (ended ++ more) ≡ closed_history rule start log told ended
closed-behind rule start log told ended more none =
    history-parts rule start told (closed_limit log) (closed_limit log) [] ended more (agree-all (closed_limit log) (closed_limit log) (λ span later. refl) ended)
    ∙ ap (λ (is : List HistoryMinute). closed_history rule start log told ended ++ is) (history-none rule start told (closed_limit log) (closed_history rule start log told ended) more none)
    ∙ append-nil (closed_history rule start log told ended)

pub lost-behind : (rule : Rule) (start : Start) (log : RunLog) (told : List ToldSecond) (ended more : List (List ToldSecond)) → AllByRecursion (λ (span : List ToldSecond). decided_of rule span ≡ []) more →
    closed_lost rule start log told (ended ++ more) ≡ closed_lost rule start log told ended
lost-behind rule start log told ended more none =
    lost-parts rule start told (closed_limit log) (closed_limit log) [] ended more (agree-all (closed_limit log) (closed_limit log) (λ span later. refl) ended)
    ∙ ap (λ (ls : List (List HistoryMinute)). closed_lost rule start log told ended ++ ls) (lost-none rule start told (closed_limit log) (closed_history rule start log told ended) more none)
    ∙ append-nil (closed_lost rule start log told ended)

pub known-append : (rule : Rule) (found : List Break) (xs ys : List (List ToldSecond)) → AllByRecursion (IsKnown rule found) xs → AllByRecursion (IsKnown rule found) ys → AllByRecursion (IsKnown rule found) (xs ++ ys)
known-append rule found [] ys h k = k
known-append rule found (x ∷ xs) ys h k = (h.0, known-append rule found xs ys h.1 k)

pub known-nothing : (rule : Rule) (found : List Break) (xs : List (List ToldSecond)) → AllByRecursion (λ (span : List ToldSecond). decided_of rule span ≡ []) xs → AllByRecursion (IsKnown rule found) xs
known-nothing rule found [] h = tt
known-nothing rule found (x ∷ xs) h = (inl h.0, known-nothing rule found xs h.1)

pub known-more : (rule : Rule) (found more : List Break) (xs : List (List ToldSecond)) → ((u : ℕ) → tells_cut u found ≡ true → tells_cut u more ≡ true) → AllByRecursion (IsKnown rule found) xs → AllByRecursion (IsKnown rule more) xs
known-more rule found more [] goes h = tt
known-more rule found more (x ∷ xs) goes h = (⊎_elim (λ none. inl none) (λ k. inr (k.0, k.1, goes k.0 k.2)) h.0, known-more rule found more xs goes h.1)

-- THE HISTORY where the newest span has two seconds, and where there is none, or one of a second
pub whole-history : (rule : Rule) (start : Start) (log : RunLog) (told : List ToldSecond) (ended : List (List ToldSecond)) (span : List ToldSecond) → spans_of told ≡ ended ++ span ∷ [] → nat_lt 1 (length span) ≡ true → ArePlain told →
    unit_history rule start log told ≡ closed_history rule start log told ended ++ map plain (decided_of rule span)
unfolding unit_history
whole-history rule start log told ended span are long h =
    ap (history_by rule start (limit_of log) told []) are
    ∙ history-long rule start told log ended span (ap (λ (b : Bool). b || false) long)
    ∙ ap (λ (is : List HistoryMinute). closed_history rule start log told ended ++ is) (minutes-plain start told (closed_history rule start log told ended) (decided_of rule span) h)

pub whole-lost : (rule : Rule) (start : Start) (log : RunLog) (told : List ToldSecond) (ended : List (List ToldSecond)) (span : List ToldSecond) → spans_of told ≡ ended ++ span ∷ [] → nat_lt 1 (length span) ≡ true →
    with_lost rule start log told ≡ closed_lost rule start log told ended
unfolding with_lost
whole-lost rule start log told ended span are long =
    ap (lost_by rule start (limit_of log) told []) are ∙ lost-long rule start told log ended span (ap (λ (b : Bool). b || false) long)

pub short-history : (rule : Rule) (start : Start) (log : RunLog) (told : List ToldSecond) (ended more : List (List ToldSecond)) → spans_of told ≡ ended ++ more → any_long more ≡ false →
    AllByRecursion (λ (span : List ToldSecond). decided_of rule span ≡ []) more → unit_history rule start log told ≡ history_by rule start (limit_of log) told [] ended
unfolding unit_history
short-history rule start log told ended more are short none =
    ap (history_by rule start (limit_of log) told []) are ∙ history-short rule start told log ended more short none

pub short-lost : (rule : Rule) (start : Start) (log : RunLog) (told : List ToldSecond) (ended more : List (List ToldSecond)) → spans_of told ≡ ended ++ more → any_long more ≡ false →
    AllByRecursion (λ (span : List ToldSecond). decided_of rule span ≡ []) more → with_lost rule start log told ≡ lost_by rule start (limit_of log) told [] ended
unfolding with_lost
short-lost rule start log told ended more are short none =
    ap (lost_by rule start (limit_of log) told []) are ∙ lost-short rule start told log ended more short none
