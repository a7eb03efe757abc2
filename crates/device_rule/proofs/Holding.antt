-- What the rules say of a run's end: acknowledged minutes, the agreement of unit and card, presence.
use Rattle.std.proofs.Common.{◌≡◌, ⊎_elim, ℕ, suc, ◌<◌, ◌≤◌, ◌↔◌, max, All, Option, List, [], ◌∷◌, ◌++◌, Contains, subst, sym, arith}
use Rattle.std.proofs.lemmas.List.Elements.{All-contains, Contains-append_left, Contains-append_cases}
use Rattle.std.specs.Prelude.{option_to_list}
use Rattle.activity_codec.specs.declared.entries.Entry.{Entry}
use Rattle.trace_model.specs.declared.Card.{Card}
use Rattle.history_model.specs.Minutes.{up_to, HistoryMinute, card_history}
use Rattle.history_model.specs.Presence.{CardStart, trimmed_by, newest_by}
use Rattle.card_retention.specs.Retains.{Rise}
use Rattle.card_image.specs.View.{CardView, Held}
use Rattle.device_rule.specs.Views.{UnitView, owed, newest_with}
use Rattle.device_rule.specs.Device.{Seen, CoherentViews, LeavesViews, SettledViews}
use Rattle.history_model.specs.Book.{Book}
use Rattle.device_rule.specs.Rules.{Acknowledges, UnitHolds, Showed, Meets, Standing, since, Had, CardDark, OwedCounts}
use Rattle.history_model.proofs.Filters.{all-front, all-back}
use Rattle.history_model.proofs.Books.{reached-has}
use Rattle.device_rule.proofs.Pairs.{owed-above}
use Rattle.unit_model.specs.Days.{ShownDay}

-- MARKS
-- a device that is settled has acknowledged what all its views have
pub acknowledged : {V : Type 0} (level : V → ℕ) (minute : ℕ) (s : Seen V) → SettledViews s → ((v : V) → s.may_leave v → minute ≤ level v) → Acknowledges level minute s.clock s
acknowledged level minute s settled each = (omega arith, λ v on. each v (settled v on))

-- and goes on to hold it, where no step falls behind
pub acknowledges-on : {V : Type 0} (level : V → ℕ) (minute clock : ℕ) (old new : Seen V) (R : V → V → Type 0) → CoherentViews old → LeavesViews old new R → ((v w : V) → old.may_leave v → R v w → level v ≤ level w) →
    Acknowledges level minute clock old → Acknowledges level minute clock new
acknowledges-on level minute clock old new R whole run rises a = (
  omega (arith, a.0, run.later),
  λ w on. ⊎_elim (a.1 w) (λ here. omega (arith, a.1 here.0 (whole.counts_now clock here.0 a.0 here.1), rises here.0 w here.1 here.2)) (run.since clock w a.0 on),
)

-- an acknowledged minute stands in every view since then
pub unit-holds : (Fills : Option HistoryMinute → List HistoryMinute → List ShownDay → Type 0) (first began due : ℕ) (b : Book) (U : Seen UnitView) (i : HistoryMinute) (clock : ℕ) → CoherentViews U → UnitHolds Fills first began due b U → began ≤ clock → Acknowledges (λ u. u.last) i.minute clock U → Contains b.sure i →
    (u : UnitView) → U.left_since clock u → (s : Showed Fills first b u) × Contains s.past i
unit-holds Fills first began due b U i clock whole holds later a sure u on =
    let s = holds.since u (whole.earlier began clock u later a.0 on) in
    (s, reached-has first due b s.past u.last i holds.order s.reached s.mark (Contains-append_left b.sure (option_to_list b.maybe) i sure) (a.1 u on))

pub card-holds : (c : Card) (start : CardStart) (Keeps : ℕ → List Entry → Held → Type 0) (began : ℕ) (b : Book) (s : Standing) (U : Seen UnitView) (X : Seen CardView) (e : Entry) (clock : ℕ) → CoherentViews X → CardDark c start Keeps began b s U X → began ≤ clock →
    Acknowledges (λ x. x.mark) e.minute clock X → Contains (start.owed ++ card_history c b.sure) e → (x : CardView) → X.left_since clock x → (h : Had c start Keeps b x) × Contains h.more e
card-holds c start Keeps began b s U X e clock whole dark later a at x on =
    let h = dark.since x (whole.earlier began clock x later a.0 on) in (
      h,
      ⊎_elim (λ in_. in_)
          (λ lacked. absurd (omega (arith, a.1 x on, All-contains (λ (d : Entry). x.mark < d.minute) h.rest e (all-front (λ (d : Entry). x.mark < d.minute) h.rest (card_history c (option_to_list b.maybe)) h.lacks) lacked)))
          (Contains-append_cases h.more h.rest e (subst (λ (zs : List Entry). Contains zs e) h.whole at)),
    )

-- AGREEMENT: the entries of a card followed by those owed to it are the expected ones up to the unit's mark, but for days given up
-- what stands behind others that rise rises
pub rise-back : (xs ys : List Entry) → Rise (xs ++ ys) → Rise ys
rise-back [] ys rise = rise
rise-back (x ∷ []) [] rise = tt
rise-back (x ∷ []) (y ∷ ys) rise = rise.1
rise-back (x ∷ z ∷ xs) ys rise = rise-back (z ∷ xs) ys rise.1

pub agree : (c : Card) (start : CardStart) (Keeps : ℕ → List Entry → Held → Type 0) (Retains : List Entry → Held → Type 0) → OwedCounts start Keeps Retains → (past : List HistoryMinute) (s : Standing) (u : UnitView) (x : CardView) →
    Rise (start.owed ++ card_history c (up_to u.last past)) → All (λ e. start.word < e.minute) (start.owed ++ card_history c (up_to u.last past)) → Meets c start Keeps past s u x →
    Retains (start.entries ++ (start.owed ++ card_history c (up_to u.last past))) (record x.held { entries = x.held.entries ++ owed c u x })
agree c start Keeps Retains counts past s u x rise late m =
    subst (λ (zs : List Entry). Retains (start.entries ++ zs) (record x.held { entries = x.held.entries ++ owed c u x })) m.whole
    (counts (suc (max start.word (since s (newest_with x (owed c u x))))) x.mark m.more (owed c u x) x.held m.mark m.had (owed-above c u x)
    (all-back (λ (e : Entry). start.word < e.minute) m.more (owed c u x) (subst (All (λ (e : Entry). start.word < e.minute)) (sym m.whole) late))
    (rise-back m.more (owed c u x) (subst Rise (sym m.whole) rise)) m.left)

-- PRESENCE: for a minute later than the words at the start, the newest minute that an insertion answers is earlier exactly where that of the history is
pub presence-tied : (start : CardStart) (entries : List Entry) (newest words m : ℕ) → newest ≡ max words (trimmed_by start entries) → words ≤ max start.word (trimmed_by start entries) → start.word < m → (newest < m) ↔ (newest_by start entries < m)
presence-tied start entries newest words m is words_ late = (λ lt. omega (arith, lt, is, late), λ lt. omega (arith, lt, is, words_))
