-- The newest minute of a card that is accepted in a second, by some of the history from its front, is no later than that by all of it: what the history says on a card is later than what
-- stood there and what was owed to it at the start, and rises.
use Rattle.std.proofs.Common.{◌≡◌, ℕ, suc, ◌/◌, ◌+◌, max, ◌<◌, ◌≤◌, List, [], ◌∷◌, ◌++◌, All, filter, length, refl, ap, sym, subst, ◌∙◌, arith, append-nil, append_assoc, nat_lt}
use Rattle.std.proofs.lemmas.List.Elements.{All-nil, All-cons, All-head, All-tail, All-append, All-weaker, All-filter, filter-append}
use Rattle.activity_codec.specs.declared.entries.Entry.{Entry}
use Rattle.trace_model.specs.declared.Card.{Card}
use Rattle.log_model.specs.Spans.{AreInOrder}
use Rattle.minute_rules.specs.minute_model.Activity.{last}
use Rattle.unit_minutes.specs.unit_model.Image.{last_kept}
use Rattle.device_calls.specs.card_image.Own.{own_view}
use Rattle.device_calls.specs.history_model.Minutes.{HistoryMinute, card_history, on_card}
use Rattle.device_calls.specs.history_model.Growth.{Rises}
use Rattle.device_calls.specs.history_model.Presence.{CardStart, Start, card_start, closed_at, newest_by, newest_minute}
use Rattle.device_calls.proofs.history_model.Books.{history-append, history-one, history-none, on_card-minute}
use Rattle.device_calls.proofs.history_model.Filters.{all-front, all-back}
use Rattle.device_calls.proofs.history_model.Told.{rises}
use Rattle.device_calls.proofs.device_rule.Pairs.{last-append, closed-from}
use Rattle.device_calls.proofs.unit_rule.Moves.{shown-last}
use Rattle.device_calls.specs.safety_model.Recording.{Recording, card_image, brought, start_of, unit_seen, history_of, told_of}
use Rattle.run_minutes.proofs.run_promise.Beyond.{Splits, splits, rises-above}
use Rattle.run_minutes.proofs.run_promise.Behind.{owed-until, own-marked}
use Rattle.run_minutes.proofs.run_promise.CardEnd.{started}
use Rattle.run_minutes.proofs.run_promise.Present.{bound, history-later}
use Rattle.run_acts.proofs.EnteredNewest.{trimmed-most, closed-up, history-low}
use Rattle.run_acts.specs.run_record.HeldHands.{IsKnown}
use Rattle.device_calls.specs.safety_model.ByHand.{IsNoLater}

-- ---- what each minute says on a card

each-of : (P : Entry → Type 0) (c : Card) (past : List HistoryMinute) → All P (card_history c past) → All (λ (i : HistoryMinute). All P (on_card c i)) past
each-of P c [] each = All-nil (λ (i : HistoryMinute). All P (on_card c i))
each-of P c (i ∷ past) each =
    let parts : All P (on_card c i ++ card_history c past) = subst (All P) (history-append c (i ∷ []) past ∙ ap (λ (es : List Entry). es ++ card_history c past) (history-one c i)) each in
    All-cons (λ (j : HistoryMinute). All P (on_card c j)) i past (all-front P (on_card c i) (card_history c past) parts) (each-of P c past (all-back P (on_card c i) (card_history c past) parts))

all-of : (P : Entry → Type 0) (c : Card) (past : List HistoryMinute) → All (λ (i : HistoryMinute). All P (on_card c i)) past → All P (card_history c past)
all-of P c [] each = subst (All P) (sym (history-none c)) (All-nil P)
all-of P c (i ∷ past) each =
    subst (All P) (sym (history-append c (i ∷ []) past ∙ ap (λ (es : List Entry). es ++ card_history c past) (history-one c i)))
    (All-append P (on_card c i) (card_history c past) (All-head (λ (j : HistoryMinute). All P (on_card c j)) i past each) (all-of P c past (All-tail (λ (j : HistoryMinute). All P (on_card c j)) i past each)))

-- of minutes that are not earlier than one
history-high : (n : ℕ) (c : Card) (past : List HistoryMinute) → All (λ (i : HistoryMinute). n ≤ i.minute) past → All (λ (e : Entry). n ≤ e.minute) (card_history c past)
history-high n c past each =
    all-of (λ (e : Entry). n ≤ e.minute) c past
    (All-weaker (λ (i : HistoryMinute). n ≤ i.minute) (λ (i : HistoryMinute). All (λ (e : Entry). n ≤ e.minute) (on_card c i))
    (λ i le. All-weaker (λ (e : Entry). e.minute ≡ i.minute) (λ e. n ≤ e.minute) (λ e is. omega (arith, is, le)) (on_card c i) (on_card-minute c i)) past each)

last-high : (n : ℕ) (e : Entry) (es : List Entry) → All (λ (f : Entry). n ≤ f.minute) (e ∷ es) → n ≤ closed_at (last (e ∷ es))
last-high n e [] each = let le = All-head (λ (f : Entry). n ≤ f.minute) e [] each in let closed = closed-from e in omega (arith, le, closed)
last-high n e (f ∷ es) each = last-high n f es (All-tail (λ (g : Entry). n ≤ g.minute) e (f ∷ es) each)

-- ---- THE NEWEST MINUTE GROWS

module _ (start : Start) (c : Card) (from first until : ℕ) (front rest : List HistoryMinute) (second : ℕ)
    (marked : All (λ (e : Entry). e.minute ≤ (card_start start c).mark) (card_start start c).entries) (owed_low : All (λ (e : Entry). e.minute ≤ first) (card_start start c).owed)
    (early : first < from) (rise : Rises from (front ++ rest) until) (later : All (λ (e : Entry). bound (card_start start c) < e.minute) (card_history c (front ++ rest))) where
  abbrev st : CardStart
  st = card_start start c

  abbrev before : List HistoryMinute
  before = filter (λ (i : HistoryMinute). nat_lt i.minute (second / 60)) front

  abbrev behind : List HistoryMinute
  behind = filter (λ (i : HistoryMinute). nat_lt i.minute (second / 60)) rest

  s : Splits from until front rest
  s = splits from until front rest rise

  front-is : newest_minute start front c second ≡ newest_by st (st.entries ++ (st.owed ++ card_history c before))
  unfolding newest_minute
  front-is = refl

  whole-is : newest_minute start (front ++ rest) c second ≡ newest_by st ((st.entries ++ (st.owed ++ card_history c before)) ++ card_history c behind)
  unfolding newest_minute
  whole-is =
      ap (λ (past : List HistoryMinute). newest_by st (st.entries ++ (st.owed ++ card_history c past))) (filter-append (λ (i : HistoryMinute). nat_lt i.minute (second / 60)) front rest)
      ∙ ap (λ (es : List Entry). newest_by st (st.entries ++ (st.owed ++ es))) (history-append c before behind)
      ∙ ap (λ (es : List Entry). newest_by st (st.entries ++ es)) (sym (append_assoc st.owed (card_history c before) (card_history c behind)))
      ∙ ap (newest_by st) (sym (append_assoc st.entries (st.owed ++ card_history c before) (card_history c behind)))

  -- what stands in front is earlier than where the rest begins
  low : All (λ (e : Entry). e.minute < s.at) (st.owed ++ card_history c before)
  low = All-append (λ (e : Entry). e.minute < s.at) st.owed (card_history c before)
      (All-weaker (λ (e : Entry). e.minute ≤ first) (λ e. e.minute < s.at) (λ e le. let above = s.above in omega (arith, le, early, above)) st.owed owed_low)
      (history-low s.at c before (All-filter (λ (i : HistoryMinute). nat_lt i.minute (second / 60)) (λ (i : HistoryMinute). i.minute < s.at) front s.before))

  -- and the rest is not
  high : All (λ (e : Entry). s.at ≤ e.minute) (card_history c behind)
  high = history-high s.at c behind (All-filter (λ (i : HistoryMinute). nat_lt i.minute (second / 60)) (λ (i : HistoryMinute). s.at ≤ i.minute) rest (rises-above s.at until rest s.behind))

  above-mark : All (λ (e : Entry). suc st.mark ≤ e.minute) (card_history c behind)
  above-mark = all-of (λ (e : Entry). suc st.mark ≤ e.minute) c behind
      (All-filter (λ (i : HistoryMinute). nat_lt i.minute (second / 60)) (λ (i : HistoryMinute). All (λ (e : Entry). suc st.mark ≤ e.minute) (on_card c i)) rest
      (each-of (λ (e : Entry). suc st.mark ≤ e.minute) c rest
      (All-weaker (λ (e : Entry). bound st < e.minute) (λ e. suc st.mark ≤ e.minute) (λ e lt. omega (arith, lt)) (card_history c rest)
      (all-back (λ (e : Entry). bound st < e.minute) (card_history c front) (card_history c rest) (subst (All (λ (e : Entry). bound st < e.minute)) (history-append c front rest) later)))))

  grows : newest_minute start front c second ≤ newest_minute start (front ++ rest) c second
  grows = by (card_history c behind) refl
    where
      by : (es : List Entry) → card_history c behind ≡ es → newest_minute start front c second ≤ newest_minute start (front ++ rest) c second
      by [] none =
          let whole : newest_minute start (front ++ rest) c second ≡ newest_by st (st.entries ++ (st.owed ++ card_history c before)) =
          whole-is
          ∙ ap (λ (es : List Entry). newest_by st ((st.entries ++ (st.owed ++ card_history c before)) ++ es)) none
          ∙ ap (newest_by st) (append-nil (st.entries ++ (st.owed ++ card_history c before))) in
          let same = front-is in
          omega (arith, whole, same)
      by (e ∷ es) some =
          let whole : newest_minute start (front ++ rest) c second ≡ max (max st.mark st.word) (closed_at (last (e ∷ es))) =
          whole-is
          ∙ ap (λ (fs : List Entry). newest_by st ((st.entries ++ (st.owed ++ card_history c before)) ++ fs)) some
          ∙ ap (λ (o : ℕ). max (max st.mark st.word) o) (ap closed_at (last-append (st.entries ++ (st.owed ++ card_history c before)) e es)) in
          let same = front-is in
          let most = trimmed-most st st.entries (st.owed ++ card_history c before) s.at low in
          let closed = closed-up st.mark st.entries marked in
          let first_high = last-high s.at e es (subst (All (λ (f : Entry). s.at ≤ f.minute)) some high) in
          let mark_high = last-high (suc st.mark) e es (subst (All (λ (f : Entry). suc st.mark ≤ f.minute)) some above-mark) in
          omega (arith, whole, same, most, closed, first_high, mark_high)

-- SO IT IS of a newest minute that was known, where the history is this and more
pub known-grows : (r : Recording) (c : Card) (from : ℕ) (past more : List HistoryMinute) (second newest : ℕ) → AreInOrder from r.trace → last_kept r.unit < from / 60 → history_of r ≡ past ++ more → IsKnown (start_of r) past c second newest → IsNoLater r c second newest
known-grows r c from past more second newest order early whole k =
    let until : ℕ = (from + length r.trace) / 60 in
    let rest : List HistoryMinute = k.rest ++ more in
    let parts : history_of r ≡ k.front ++ rest = whole ∙ ap (λ (is : List HistoryMinute). is ++ more) k.are ∙ append_assoc k.front k.rest more in
    let marked : All (λ (e : Entry). e.minute ≤ (card_start (start_of r) c).mark) (card_start (start_of r) c).entries = subst (λ (t : CardStart). All (λ (e : Entry). e.minute ≤ t.mark) t.entries) (sym (started r c)) (own-marked (card_image r c)) in
    let last_is : (unit_seen r r.unit).last ≡ last_kept r.unit = shown-last _ _ r.unit in
    let owes : All (λ (e : Entry). e.minute ≤ last_kept r.unit) (brought r c).owed = All-weaker (λ (e : Entry). e.minute ≤ (unit_seen r r.unit).last) (λ e. e.minute ≤ last_kept r.unit) (λ e le. omega (arith, le, last_is)) (brought r c).owed (owed-until c (unit_seen r r.unit) (own_view (card_image r c))) in
    let owed_low : All (λ (e : Entry). e.minute ≤ last_kept r.unit) (card_start (start_of r) c).owed = subst (λ (t : CardStart). All (λ (e : Entry). e.minute ≤ last_kept r.unit) t.owed) (sym (started r c)) owes in
    let rise : Rises (from / 60) (k.front ++ rest) until = subst (λ (is : List HistoryMinute). Rises (from / 60) is until) parts (rises from r.rule (start_of r) r.log r.trace order) in
    let later : All (λ (e : Entry). bound (card_start (start_of r) c) < e.minute) (card_history c (k.front ++ rest)) = subst (λ (is : List HistoryMinute). All (λ (e : Entry). bound (card_start (start_of r) c) < e.minute) (card_history c is)) parts (history-later r.rule (start_of r) r.log (told_of r) c) in
    let le : newest_minute (start_of r) k.front c second ≤ newest_minute (start_of r) (k.front ++ rest) c second = grows (start_of r) c (from / 60) (last_kept r.unit) until k.front rest second marked owed_low early rise later in
    let most = k.most in
    subst (λ (is : List HistoryMinute). newest ≤ newest_minute (start_of r) is c second) (sym parts) (omega (arith, le, most))
