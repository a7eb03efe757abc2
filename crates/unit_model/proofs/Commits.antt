-- What the days show once the last-kept minute is written.
use Rattle.std.proofs.Common.{◌≡◌, ◌≢◌, ℕ, ◌+◌, ◌*◌, ◌/◌, ◌%◌, ◌<◌, ◌≤◌, Bool, true, false, cond, List, [], ◌∷◌, ◌++◌, refl, sym, ◌∙◌, ap, arith, append_assoc}
use Rattle.std.specs.Prelude.{◌==◌}
use Rattle.std.proofs.lemmas.Bool.Decides.{nat_tests}
use Rattle.unit_model.specs.Days.{word_by, word_minute, bare, state_by, state_after, state_at, UnitMinute, ShownDay, StoredDay, day_of, minute_at, shown, days_shown, unknown_minute, padded, with_minute, day_from, filled, Each, minute_by}
use Rattle.unit_model.specs.Changes.{changes, new_words, closing_words, first_states, further_words}
use Rattle.unit_model.proofs.States.{state_after_append, state_later, state_stays, new_minutes, new_driver, new_codriver, gap_driver, gap_codriver, driver_by, codriver_by, minutes_by, by_word, by_other}
use Rattle.unit_model.proofs.Growth.{shown_padded, shown_with, days_append, day_now, day_before, days_before, filled_last, filled_same, filled_next}

-- a slot's state after more words, in a minute from the last-kept one on, or before it
module _ (s t e u : ℕ) (words ws : List ℕ) (low : Each (λ w. word_minute w ≤ t) words) (known : state_at s t words ≡ e) where
  pub state_on : t ≤ u → state_at s u (words ++ ws) ≡ state_after s u e ws
  state_on le = state_after_append s u bare words ws ∙ ap (λ (c : ℕ). state_after s u c ws) (state_stays s t u bare words low le ∙ known)

  pub state_back : Each (λ w. u < word_minute w) ws → state_at s u (words ++ ws) ≡ state_at s u words
  state_back later = state_after_append s u bare words ws ∙ state_later s u (state_at s u words) ws later

module _ (k m dc cc dn cn : ℕ) (older : List StoredDay) (date o : ℕ) (words : List ℕ) (earlier : Each (λ d. day_of d < k / 1440) older) (now : date / 86400 ≡ k / 1440)
    (low : Each (λ w. word_minute w ≤ k % 1440) words) (driver : state_at 0 (k % 1440) words ≡ dc) (codriver : state_at 1 (k % 1440) words ≡ cc) (short : dn < 16) (short' : cn < 16) where
  abbrev old : StoredDay
  old = record { date = date; odometer = o; words = words }

  abbrev it : UnitMinute
  it = minute_by m dn cn

  -- a minute more on the day of the last-kept one
  module _ (same : m / 1440 ≡ k / 1440) (later : k < m) where
    abbrev ws : List ℕ
    ws = new_words (k % 1440 + 1) (m % 1440) dc cc dn cn

    abbrev day : StoredDay
    day = record { date = date; odometer = o; words = words ++ ws }

    next_le : k % 1440 + 1 ≤ m % 1440
    next_le = omega arith

    ws_later : (u : ℕ) → u < k % 1440 + 1 → Each (λ w. u < word_minute w) ws
    ws_later u less = new_minutes (k % 1440 + 1) (m % 1440) dc cc dn cn next_le (omega arith) short short' (λ n. u < n) less (omega arith)

    front : (u : ℕ) → u < k % 1440 + 1 → minute_at day u ≡ minute_at old u
    front u less = λ i. minute_by (1440 * (date / 86400) + u) (state_back 0 (k % 1440) dc u words ws low driver (ws_later u less) i) (state_back 1 (k % 1440) cc u words ws low codriver (ws_later u less) i)

    gap : (u : ℕ) → k % 1440 + 1 ≤ u → u < m % 1440 → minute_at day u ≡ unknown_minute (1440 * day_of old + u)
    gap u first last = λ i. minute_by (1440 * (date / 86400) + u) ((state_on 0 (k % 1440) dc u words ws low driver (omega arith) ∙ gap_driver (k % 1440 + 1) (m % 1440) dc cc dn cn next_le (omega arith) short short' u first last) i) ((state_on 1 (k % 1440) cc u words ws low codriver (omega arith) ∙ gap_codriver (k % 1440 + 1) (m % 1440) dc cc dn cn next_le (omega arith) short short' u first last) i)

    minute_is : 1440 * (date / 86400) + m % 1440 ≡ m
    minute_is = omega arith

    last : minute_at day (m % 1440) ≡ it
    last = λ i. minute_by (minute_is i) ((state_on 0 (k % 1440) dc (m % 1440) words ws low driver (omega arith) ∙ new_driver (k % 1440 + 1) (m % 1440) dc cc dn cn next_le (omega arith) short short') i) ((state_on 1 (k % 1440) cc (m % 1440) words ws low codriver (omega arith) ∙ new_codriver (k % 1440 + 1) (m % 1440) dc cc dn cn next_le (omega arith) short short') i)

    pub same_day : days_shown m (older ++ day ∷ []) ≡ filled (days_shown k (older ++ old ∷ [])) it
    same_day =
        let n = k % 1440 + 1 in
        days_append m older (day ∷ []) ∙ ap (λ (l : List ShownDay). l ++ days_shown m (day ∷ [])) (days_before k m older (omega arith) earlier)
        ∙ ap (λ (l : List ShownDay). days_shown k older ++ l) (day_now m day (now ∙ sym same) ∙ ap (λ (d : ShownDay). d ∷ []) (shown_with n (m % 1440) old day it refl next_le refl front gap last))
        ∙ sym (ap (λ (l : List ShownDay). filled l it) (days_append k older (old ∷ []) ∙ ap (λ (l : List ShownDay). days_shown k older ++ l) (day_now k old now))
        ∙ filled_last (days_shown k older) (shown n old) it
        ∙ ap (λ (l : List ShownDay). days_shown k older ++ l) (filled_same (shown n old) it (now ∙ sym same)))

  -- a minute on a later day
  module _ (date' o' : ℕ) (its_day : date' / 86400 ≡ m / 1440) (later : k / 1440 < m / 1440) where
    abbrev cs : List ℕ
    cs = closing_words (k % 1440 + 1) dc cc

    abbrev closed : StoredDay
    closed = record { date = date; odometer = o; words = words ++ cs }

    pub closing_later : (u : ℕ) → u < k % 1440 + 1 → Each (λ w. u < word_minute w) cs
    closing_later u less = by (k % 1440 + 1 == 1440) refl
      where
        by : (b : Bool) → (k % 1440 + 1 == 1440) ≡ b → Each (λ w. u < word_minute w) (cond b [] (changes (k % 1440 + 1) dc cc bare bare))
        by true is = tt
        by false is =
            let isnt : k % 1440 + 1 ≢ 1440 = grind (arith, nat_tests, is) in
            minutes_by 0 0 0 0 0 0 (omega arith) (omega arith) (omega arith) (omega arith) (λ n. u < n) (k % 1440 + 1) dc cc bare bare (omega (arith, isnt)) (omega arith) (omega arith) less

    closed_driver : (u : ℕ) → k % 1440 + 1 ≤ u → u < 1440 → state_after 0 u dc cs ≡ bare
    closed_driver u first less =
        let open_one : (k % 1440 + 1 == 1440) ≡ false = grind (arith, nat_tests) in
        ap (λ (b : Bool). state_after 0 u dc (cond b [] (changes (k % 1440 + 1) dc cc bare bare))) open_one
        ∙ driver_by 0 0 0 0 0 0 (omega arith) (omega arith) (omega arith) (omega arith) (k % 1440 + 1) dc cc bare bare u (omega arith) (omega arith) (omega arith) first

    closed_codriver : (u : ℕ) → k % 1440 + 1 ≤ u → u < 1440 → state_after 1 u cc cs ≡ bare
    closed_codriver u first less =
        let open_one : (k % 1440 + 1 == 1440) ≡ false = grind (arith, nat_tests) in
        ap (λ (b : Bool). state_after 1 u cc (cond b [] (changes (k % 1440 + 1) dc cc bare bare))) open_one
        ∙ codriver_by 0 0 0 0 0 0 (omega arith) (omega arith) (omega arith) (omega arith) (k % 1440 + 1) dc cc bare bare u (omega arith) (omega arith) (omega arith) first

    closed_front : (u : ℕ) → u < k % 1440 + 1 → minute_at closed u ≡ minute_at old u
    closed_front u less = λ i. minute_by (1440 * (date / 86400) + u) (state_back 0 (k % 1440) dc u words cs low driver (closing_later u less) i) (state_back 1 (k % 1440) cc u words cs low codriver (closing_later u less) i)

    closed_gap : (u : ℕ) → k % 1440 + 1 ≤ u → u < 1440 → minute_at closed u ≡ unknown_minute (1440 * day_of old + u)
    closed_gap u first less = λ i. minute_by (1440 * (date / 86400) + u) ((state_on 0 (k % 1440) dc u words cs low driver (omega arith) ∙ closed_driver u first less) i) ((state_on 1 (k % 1440) cc u words cs low codriver (omega arith) ∙ closed_codriver u first less) i)

    abbrev begun : StoredDay
    begun = record { date = date'; odometer = o'; words = first_states (m % 1440) dn cn ++ further_words (m % 1440) dn cn }

    pub begun_is : (begun_words : (u : ℕ) → u < m % 1440 → (state_at 0 u begun.words ≡ bare) × (state_at 1 u begun.words ≡ bare))
        → (state_at 0 (m % 1440) begun.words ≡ dn) × (state_at 1 (m % 1440) begun.words ≡ cn) → shown (m % 1440 + 1) begun ≡ day_from it
    begun_is before at =
        let minute : 1440 * (date' / 86400) + m % 1440 ≡ m = omega arith in
        shown_with 0 (m % 1440) (record { date = date'; odometer = o'; words = [] }) begun it refl (omega arith) refl (λ u none. absurd (omega arith))
        (λ u le less. λ i. minute_by (1440 * (date' / 86400) + u) ((before u less).0 i) ((before u less).1 i))
        (λ i. minute_by (minute i) (at.0 i) (at.1 i))
        ∙ ap (λ (d : ℕ). with_minute it (record { day = d; minutes = [] })) its_day

    two_first : (d c u : ℕ) → d < 16 → c < 16 → (state_at 0 u (word_by 0 d 0 ∷ word_by 1 c 0 ∷ []) ≡ d) × (state_at 1 u (word_by 0 d 0 ∷ word_by 1 c 0 ∷ []) ≡ c)
    two_first d c u s1 s2 = (
      ap (λ (e : ℕ). state_by 0 u e (word_by 1 c 0)) (by_word 0 d 0 (omega arith) s1 (omega arith) u bare (omega arith)) ∙ by_other 1 c 0 (omega arith) s2 (omega arith) 0 u d (omega arith),
      by_word 1 c 0 (omega arith) s2 (omega arith) u (state_by 1 u bare (word_by 0 d 0)) (omega arith),
    )

    abbrev further : List ℕ
    further = changes (m % 1440) bare bare dn cn

    pub begun_before : (u : ℕ) → u < m % 1440 → (state_at 0 u begun.words ≡ bare) × (state_at 1 u begun.words ≡ bare)
    begun_before u less =
        let isnt : (m % 1440 == 0) ≡ false = grind (arith, nat_tests) in
        let two = two_first bare bare u (omega arith) (omega arith) in
        let firsts = word_by 0 bare 0 ∷ word_by 1 bare 0 ∷ [] in
        let none : Each (λ w. u < word_minute w) further = minutes_by 0 0 0 0 0 0 (omega arith) (omega arith) (omega arith) (omega arith) (λ n. u < n) (m % 1440) bare bare dn cn (omega arith) short short' less in
        let is : begun.words ≡ firsts ++ further = ap (λ (b : Bool). cond b (word_by 0 dn 0 ∷ word_by 1 cn 0 ∷ []) firsts ++ cond b [] further) isnt in (
          ap (state_at 0 u) is ∙ state_after_append 0 u bare firsts further ∙ state_later 0 u (state_at 0 u firsts) further none ∙ two.0,
          ap (state_at 1 u) is ∙ state_after_append 1 u bare firsts further ∙ state_later 1 u (state_at 1 u firsts) further none ∙ two.1,
        )

    pub begun_at : (state_at 0 (m % 1440) begun.words ≡ dn) × (state_at 1 (m % 1440) begun.words ≡ cn)
    begun_at = by (m % 1440 == 0)
      where
        by : (b : Bool) → (state_at 0 (m % 1440) (cond b (word_by 0 dn 0 ∷ word_by 1 cn 0 ∷ []) (word_by 0 bare 0 ∷ word_by 1 bare 0 ∷ []) ++ cond b [] further) ≡ dn)
            × (state_at 1 (m % 1440) (cond b (word_by 0 dn 0 ∷ word_by 1 cn 0 ∷ []) (word_by 0 bare 0 ∷ word_by 1 bare 0 ∷ []) ++ cond b [] further) ≡ cn)
        by true = two_first dn cn (m % 1440) short short'
        by false =
            let firsts = word_by 0 bare 0 ∷ word_by 1 bare 0 ∷ [] in
            let two = two_first bare bare (m % 1440) (omega arith) (omega arith) in (
              state_after_append 0 (m % 1440) bare firsts further ∙ ap (λ (e : ℕ). state_after 0 (m % 1440) e further) two.0
                  ∙ driver_by 0 0 0 0 0 0 (omega arith) (omega arith) (omega arith) (omega arith) (m % 1440) bare bare dn cn (m % 1440) (omega arith) short short' (omega arith),
              state_after_append 1 (m % 1440) bare firsts further ∙ ap (λ (e : ℕ). state_after 1 (m % 1440) e further) two.1
                  ∙ codriver_by 0 0 0 0 0 0 (omega arith) (omega arith) (omega arith) (omega arith) (m % 1440) bare bare dn cn (m % 1440) (omega arith) short short' (omega arith),
            )

    pub next_day : days_shown m ((older ++ closed ∷ []) ++ begun ∷ []) ≡ filled (days_shown k (older ++ old ∷ [])) it
    next_day =
        let n = k % 1440 + 1 in
        days_append m (older ++ closed ∷ []) (begun ∷ [])
        ∙ ap (λ (l : List ShownDay). l ++ days_shown m (begun ∷ [])) (days_append m older (closed ∷ []) ∙ ap (λ (l : List ShownDay). l ++ days_shown m (closed ∷ [])) (days_before k m older (omega arith) earlier))
        ∙ ap (λ (l : List ShownDay). (days_shown k older ++ l) ++ days_shown m (begun ∷ [])) (day_before m closed [] (omega arith) ∙ ap (λ (d : ShownDay). d ∷ []) (shown_padded n 1440 old closed refl (omega arith) closed_front closed_gap))
        ∙ ap (λ (l : List ShownDay). (days_shown k older ++ padded 1440 (shown n old) ∷ []) ++ l) (day_now m begun its_day ∙ ap (λ (d : ShownDay). d ∷ []) (begun_is begun_before begun_at))
        ∙ append_assoc (days_shown k older) (padded 1440 (shown n old) ∷ []) (day_from it ∷ [])
        ∙ sym (ap (λ (l : List ShownDay). filled l it) (days_append k older (old ∷ []) ∙ ap (λ (l : List ShownDay). days_shown k older ++ l) (day_now k old now))
        ∙ filled_last (days_shown k older) (shown n old) it
        ∙ ap (λ (l : List ShownDay). days_shown k older ++ l) (filled_next (shown n old) it (omega arith)))
