-- A drop where there is no room, and then a word.
use Rattle.std.proofs.Common.{◌≡◌, ◌≢◌, ◌⊎◌, inl, inr, ⊎_elim, ℕ, ◌+◌, ◌-◌, ◌*◌, ◌<◌, ◌≤◌, Bool, true, cond, IfSome, List, [], ◌∷◌, ◌++◌, length, take, refl, sym, ◌∙◌, ap, subst, arith, length-append}
use Rattle.std.specs.Prelude.{nat_lt}
use Rattle.std.proofs.lemmas.Bool.{cases_lt}
use Rattle.card_model.specs.Bytes.{two_bytes}
use Rattle.std.proofs.lemmas.Bool.Decides.{nat_tests}
use Rattle.tach_media.specs.Medium.{State}
use Rattle.tach_media.specs.Plan.{put_all, IsPartway, PutsAll, PutsBy}
use Rattle.tach_media.proofs.Plans.{put_all-append, partway_either, partway_outside, puts_outside}
use Rattle.card_model.specs.Days.{Day, total, last_word}
use Rattle.card_model.specs.Changes.{Remain, fitting, with_newest, with_word, OnNewest, TakesWord}
use Rattle.card_model.specs.Image.{StringShape, IsPlace, IsPointer, HoldsDays, circle_of, spot}
use Rattle.card_model.proofs.Lists.{total-append}
use Rattle.card_model.proofs.Reading.{fills}
use Rattle.card_model.proofs.Walking.{one_list}
use Rattle.card_days.specs.declared.head.DayHead.{DayHead}
use Rattle.card_days.specs.Heads.{day_head}
use Rattle.card_days.specs.Held.{Held, IsInBounds, Knows, IsNewestHead, newest_len, end_of}
use Rattle.card_days.specs.Moments.{IfKnown, IsChanging, IsChanged, KnowsChanged, ClearsChanged}
use Rattle.card_days.specs.Plans.{most_drops, left_in, drop_pieces, word_pieces, change_pieces, more_words, tail_more}
use Rattle.card_days.specs.Steps.{roomier, Looks}
use Rattle.card_days.proofs.Appending.{appended, newest_same, front_same, while_appending}
use Rattle.card_days.proofs.Counting.{drop_most}
use Rattle.card_days.proofs.Putting.{puts_told}
use Rattle.card_days.proofs.Told.{from_told}
use Rattle.card_days.proofs.Inside.{put_length, left_low, drop_inside, change_inside}
use Rattle.card_model.proofs.Trims.{with_last}
use Rattle.card_days.proofs.Lists.{Split, split, newest_on, longer_by_two, few_strict}
use Rattle.card_days.proofs.Matching.{front_cleared, Matches, matches, end_is, left_is, dropped, dropping, dropped_count, dropped_cleared}
use Rattle.card_model.proofs.Retention.{fitting_all}
use Rattle.card_days.proofs.Roomier.{fitting_once, newest_left, remain_once}
use Rattle.card_days.proofs.Rounds.{spot_is}
use Rattle.card_days.proofs.Tails.{newest_last}

-- the newest of some days is told, where there is one
newest_told : (h : DayHead) (w v : ℕ) (days : List Day) → OnNewest (TakesWord v) days → IsNewestHead h w days → OnNewest (λ d. h ≡ day_head h.place d) days
newest_told h w v [] on is = absurd on
newest_told h w v (d ∷ []) on is = is.0
newest_told h w v (d ∷ e ∷ ds) on is = newest_told h w v (e ∷ ds) on is

last_added : (ws : List ℕ) (w : ℕ) → w ≡ last_word (ws ++ w ∷ [])
last_added [] w = refl
last_added (v ∷ []) w = refl
last_added (v ∷ u ∷ ws) w = last_added (u ∷ ws) w

module _ (v : Held) (is : IsInBounds v) (w : ℕ) (x : List ℕ) (inside : v.shape.base + (4 + v.shape.size) ≤ length x) (days : List Day) (k : Knows v x days) where
  abbrev r : StringShape
  r = v.shape

  abbrev room : ℕ
  room = r.size - 2

  abbrev kept : List Day
  kept = roomier room days

  abbrev left : ℕ
  left = left_in v 2 x v.tail.used

  big : 2892 ≤ room
  big = omega (arith, is.shape.low)

  left_known : left ≡ total kept
  left_known = left_is v is x inside 2 (omega arith) [] days v.tail.used (matches v x days k) k.holds.ordered k.used

  abbrev y : List ℕ
  y = put_all (drop_pieces v v.tail.used left) x

  m : Matches v y kept
  m = dropped v is x inside room big days (matches v x days k) v.tail.used left k.used left_known

  once : (fitting room days ≡ kept) × (total kept ≤ room)
  once = fitting_once room 0 days k.holds.ordered (omega (arith, fills r is.shape x inside days k.holds))

  y_inside : r.base + (4 + r.size) ≤ length y
  y_inside =
      let l = left_low v is 2 x v.tail.used (omega arith) is.most is.even in
      put_length r (drop_pieces v v.tail.used left) x inside (drop_inside v is v.tail.used left (omega (arith, l.0, is.most)) l.1)

  module _ (on : OnNewest (TakesWord w) days) where
    field : IsPlace r.size v.tail.head.place 2 (spot r.size v.tail.head.place 2) × IsPointer r.size (spot r.size v.tail.head.place 2)
    field = spot_is r.size v.tail.head.place 2 is.shape.even is.pointer refl (omega (arith, is.shape.low))

    on_kept : OnNewest (TakesWord w) kept
    on_kept = newest_left (TakesWord w) room 0 days big k.holds.ordered on

    fits : total kept + 2 ≤ r.size
    fits = omega (arith, once.1, is.shape.low)

    abbrev e : ℕ
    e = end_of v

    held : HoldsDays r (put_all (word_pieces v w) y) (with_newest (with_word w) kept)
    held = appended r is.shape y y_inside w v.tail.head.place (newest_len v) e (spot r.size v.tail.head.place 2) m.place (end_is v is).0 (end_is v is).1 field.0 field.1 kept m.holds on_kept m.len fits

    pub changed : HoldsDays r (put_all (change_pieces v w x) x) (with_newest (with_word w) (fitting room days))
    changed = subst (λ (l : List Day). HoldsDays r (put_all (change_pieces v w x) x) (with_newest (with_word w) l)) (sym once.0)
        (subst (λ (z : List ℕ). HoldsDays r z (with_newest (with_word w) kept)) (sym (put_all-append (drop_pieces v v.tail.used left) (word_pieces v w) x)) held)

    -- where a day goes, there is no length before the oldest
    pub changed_cleared : fitting room days ≢ days → take 2 (circle_of r (put_all (change_pieces v w x) x)) ≡ two_bytes 0
    changed_cleared other = subst (λ (z : List ℕ). take 2 (circle_of r z) ≡ two_bytes 0) (sym (put_all-append (drop_pieces v v.tail.used left) (word_pieces v w) x))
        (front_same r is.shape y y_inside w v.tail.head.place (newest_len v) e (spot r.size v.tail.head.place 2) m.place (end_is v is).0 (end_is v is).1 field.0 field.1 kept m.holds on_kept m.len fits
        ∙ dropped_cleared v is x inside room big days (matches v x days k) v.tail.used left k.used left_known (inl goes))
      where
        goes : room < total days
        goes = ⊎_elim (λ lt. lt) (λ le. absurd (other (fitting_all room days le))) (cases_lt room (total days))

    pub changing : (c : List ℕ) → IsPartway (change_pieces v w x) x c → ((kept : List Day) × Remain room days kept × HoldsDays r c kept) ⊎ HoldsDays r c (with_newest (with_word w) (fitting room days))
    changing c part = ⊎_elim
        (λ first. inl (dropping v is x inside room big days (matches v x days k) v.tail.used left k.used left_known c first))
        (λ next. ⊎_elim
        (λ still. inl (kept, remain_once room days, still))
        (λ more. inr (subst (λ (l : List Day). HoldsDays r c (with_newest (with_word w) l)) (sym once.0) more))
        (while_appending r is.shape y y_inside w v.tail.head.place (newest_len v) e (spot r.size v.tail.head.place 2) m.place (end_is v is).0 (end_is v is).1 field.0 field.1 kept m.holds on_kept m.len fits c next))
        (partway_either (drop_pieces v v.tail.used left) (word_pieces v w) x c part)

    -- what is kept then
    abbrev next : Held
    next = record { shape = r; tail = tail_more v.tail w (left + 2) }

    pub known : Knows next (put_all (change_pieces v w x) x) (with_newest (with_word w) (fitting room days))
    known = subst (λ (l : List Day). Knows next (put_all (change_pieces v w x) x) (with_newest (with_word w) l)) (sym once.0)
        (subst (λ (z : List ℕ). Knows next z (with_newest (with_word w) kept)) (sym (put_all-append (drop_pieces v v.tail.used left) (word_pieces v w) x))
        (record {
          holds = held;
          place = m.place ∙ sym (newest_same r is.shape y y_inside w v.tail.head.place (newest_len v) e (spot r.size v.tail.head.place 2) m.place (end_is v is).0 (end_is v is).1 field.0 field.1 kept m.holds on_kept m.len fits);
          used = omega (arith, left_known, ap total s.is, total-append s.older (s.newest ∷ []), ap total longer, total-append s.older (with_word w s.newest ∷ []), longer_by_two w s.newest);
          newest = subst (λ (l : List Day). IsNewestHead next.tail.head w l) (sym longer) (newest_last next.tail.head w s.older (with_word w s.newest) head (last_added s.newest.words w));
        }))
      where
        s : Split kept
        s = split (TakesWord w) kept on_kept

        longer : with_newest (with_word w) kept ≡ s.older ++ with_word w s.newest ∷ []
        longer = ap (λ (l : List Day). with_newest (with_word w) l) s.is ∙ with_last (with_word w) s.older s.newest

        told : v.tail.head ≡ day_head v.tail.head.place s.newest
        told = newest_on (λ d. v.tail.head ≡ day_head v.tail.head.place d) s.older s.newest (subst (λ (l : List Day). OnNewest (λ d. v.tail.head ≡ day_head v.tail.head.place d) l) s.is
            (newest_left (λ d. v.tail.head ≡ day_head v.tail.head.place d) room 0 days big k.holds.ordered (newest_told v.tail.head v.tail.latest w days on k.newest)))

        takes : TakesWord w s.newest
        takes = newest_on (TakesWord w) s.older s.newest (subst (λ (l : List Day). OnNewest (TakesWord w) l) s.is on_kept)

        count : v.tail.head.words ≡ length s.newest.words
        count = ap (λ (h : DayHead). h.words) told

        more : v.tail.head.words < 1440 → more_words v.tail.head.words ≡ v.tail.head.words + 1
        more lt = let test : nat_lt v.tail.head.words 1440 ≡ true = grind (arith, nat_tests) in ap (λ (b : Bool). cond b (v.tail.head.words + 1) v.tail.head.words) test

        words_is : more_words v.tail.head.words ≡ length (s.newest.words ++ w ∷ [])
        words_is = more (omega (arith, count, few_strict (s.newest.words ++ w ∷ []) takes, length-append s.newest.words (w ∷ []))) ∙ omega (arith, count, length-append s.newest.words (w ∷ []))

        head : next.tail.head ≡ day_head v.tail.head.place (with_word w s.newest)
        head = ap (λ (h : DayHead). record h { words = more_words v.tail.head.words }) told ∙ ap (λ (n : ℕ). record (day_head v.tail.head.place s.newest) { words = n }) words_is

  -- two writes, and two for each day that goes
  pub change_count : length (change_pieces v w x) + 2 * length (fitting room days) ≡ 2 + 2 * length days
  change_count = omega (arith, length-append (drop_pieces v v.tail.used left) (word_pieces v w), ap length once.0, dropped_count v is x inside room big days (matches v x days k) v.tail.used left k.used left_known)

-- what the code read is what the plan tells
pub change_puts : {old mid new : State} {failed : Bool} (v : Held) (w used left : ℕ) → used ≡ v.tail.used → v.tail.used ≤ v.shape.size → Looks old mid → IfSome old.image (λ x. left ≡ left_in v 2 x used)
    → (used + 2 ≤ v.shape.size → left ≡ used) → PutsAll mid new failed (drop_pieces v used left ++ word_pieces v w)
    → PutsBy old new failed 2 (2 + 2 * most_drops v.shape.size v.tail.used 2) (change_pieces v w)
change_puts {old} v w used left used_is low looks told kept puts =
    let sum = length-append (drop_pieces v used left) (word_pieces v w) in
    puts_told (drop_pieces v used left ++ word_pieces v w) (change_pieces v w) looks
    (from_told old.image (λ x. left ≡ left_in v 2 x used) (λ x. change_pieces v w x ≡ drop_pieces v used left ++ word_pieces v w) told (λ x was is.
    ap (λ (u : ℕ). drop_pieces v u (left_in v 2 x u) ++ word_pieces v w) (sym used_is) ∙ ap (λ (l : ℕ). drop_pieces v used l ++ word_pieces v w) (sym is)))
    puts (omega (arith, sum))
    (omega (arith, sum, subst (λ (u : ℕ). length (drop_pieces v used left) ≤ 2 * most_drops v.shape.size u 2) used_is (drop_most v v.shape.size used left 2 (omega (arith, used_is, low)) (omega arith) kept)))

-- the same of an image that is told
module _ (v : Held) (is : IsInBounds v) (w : ℕ) (x : List ℕ) (inside : v.shape.base + (4 + v.shape.size) ≤ length x) where
  -- one list is held
  same_days : (days others : List Day) → Knows v x days → HoldsDays v.shape x others → Knows v x others
  same_days days others k h = subst (λ (l : List Day). Knows v x l) (one_list v.shape is.shape x inside days others k.holds h) k

  pub changing_known : (c : List ℕ) → IsPartway (change_pieces v w x) x c → IfKnown v (IsChanging v.shape w) x c
  changing_known c part =
      let outside = partway_outside v.shape.base (4 + v.shape.size) (change_pieces v w x) (change_inside v is w x) x c inside part in
      record { outside = outside; told = λ days k. record { outside = outside; list = λ others h on. changing v is w x inside others (same_days days others k h) on c part } }

  pub changed_known : IfKnown v (IsChanged v.shape w) x (put_all (change_pieces v w x) x)
  changed_known =
      let outside = puts_outside v.shape.base (4 + v.shape.size) (change_pieces v w x) (change_inside v is w x) x inside in
      record { outside = outside; told = λ days k. record { outside = outside; list = λ others h on. changed v is w x inside others (same_days days others k h) on } }

  pub changed_clears : ClearsChanged v w x (put_all (change_pieces v w x) x)
  changed_clears days k on other =
      let h = changed v is w x inside days k on in
      front_cleared v.shape is.shape (put_all (change_pieces v w x) x) (put_length v.shape (change_pieces v w x) x inside (change_inside v is w x)) h.oldest (changed_cleared v is w x inside days k on other)

  pub changed_knows : (then : Held) (used : ℕ) → then ≡ record { shape = v.shape; tail = tail_more v.tail w used } → used ≡ left_in v 2 x v.tail.used + 2 → KnowsChanged v then w x (put_all (change_pieces v w x) x)
  changed_knows then used next_is used_is days k on =
      subst (λ (h : Held). Knows h (put_all (change_pieces v w x) x) (with_newest (with_word w) (fitting (v.shape.size - 2) days))) (sym (next_is ∙ ap (λ (u : ℕ). record { shape = v.shape; tail = tail_more v.tail w u }) used_is)) (known v is w x inside days k on)
