-- The state of a slot while words are added.
use Rattle.std.proofs.Common.{◌≡◌, ◌≢◌, ℕ, ◌+◌, ◌<◌, ◌≤◌, Bool, true, false, cond, List, [], ◌∷◌, ◌++◌, refl, sym, ◌∙◌, ap, arith}
use Rattle.std.specs.Prelude.{◌==◌, ◌&&◌, nat_le}
use Rattle.std.proofs.lemmas.Bool.Decides.{nat_tests}
use Rattle.unit_model.specs.Days.{slot_bit, word_state, word_minute, word_by, bare, state_by, state_after, Each}
use Rattle.unit_model.specs.Changes.{change, changes, new_words}

pub state_after_append : (s u c : ℕ) (a b : List ℕ) → state_after s u c (a ++ b) ≡ state_after s u (state_after s u c a) b
state_after_append s u c [] b = refl
state_after_append s u c (w ∷ ws) b = state_after_append s u (state_by s u c w) ws b

-- words of later minutes don't count
pub state_later : (s u c : ℕ) (ws : List ℕ) → Each (λ w. u < word_minute w) ws → state_after s u c ws ≡ c
state_later s u c [] all = refl
state_later s u c (w ∷ ws) all =
    let off : nat_le (word_minute w) u ≡ false = grind (arith, nat_tests, all.0) in
    ap (λ (e : ℕ). state_after s u e ws) (ap (λ (b : Bool). cond ((slot_bit w == s) && b) (word_state w) c) off ∙ both (slot_bit w == s))
    ∙ state_later s u c ws all.1
  where
    both : (b : Bool) → cond (b && false) (word_state w) c ≡ c
    both true = refl
    both false = refl

-- from the last word on a state stays
pub state_stays : (s t u c : ℕ) (ws : List ℕ) → Each (λ w. word_minute w ≤ t) ws → t ≤ u → state_after s u c ws ≡ state_after s t c ws
state_stays s t u c [] all le = refl
state_stays s t u c (w ∷ ws) all le =
    let on_u : nat_le (word_minute w) u ≡ true = grind (arith, nat_tests, all.0) in
    let on_t : nat_le (word_minute w) t ≡ true = grind (arith, nat_tests, all.0) in
    ap (λ (b : Bool). state_after s u (cond ((slot_bit w == s) && b) (word_state w) c) ws) on_u
    ∙ state_stays s t u (cond ((slot_bit w == s) && true) (word_state w) c) ws all.1 le
    ∙ sym (ap (λ (b : Bool). state_after s t (cond ((slot_bit w == s) && b) (word_state w) c) ws) on_t)

module _ (s e t : ℕ) (short_slot : s < 2) (short : e < 16) (short_minute : t < 2048) where
  pub slot_of : slot_bit (word_by s e t) ≡ s
  slot_of = omega arith

  pub state_of : word_state (word_by s e t) ≡ e
  state_of = omega arith

  pub minute_of : word_minute (word_by s e t) ≡ t
  minute_of = omega arith

  -- the state by that word
  pub by_word : (u c : ℕ) → t ≤ u → state_by s u c (word_by s e t) ≡ e
  by_word u c le =
      let a : (slot_bit (word_by s e t) == s) ≡ true = grind (arith, nat_tests, slot_of) in
      let b : nat_le (word_minute (word_by s e t)) u ≡ true = grind (arith, nat_tests, minute_of) in
      ap (λ (p : Bool). cond (p && nat_le (word_minute (word_by s e t)) u) (word_state (word_by s e t)) c) a
      ∙ ap (λ (p : Bool). cond (true && p) (word_state (word_by s e t)) c) b ∙ state_of

  pub by_other : (o u c : ℕ) → o ≢ s → state_by o u c (word_by s e t) ≡ c
  by_other o u c other =
      let a : (slot_bit (word_by s e t) == o) ≡ false = grind (arith, nat_tests, slot_of) in
      ap (λ (p : Bool). cond (p && nat_le (word_minute (word_by s e t)) u) (word_state (word_by s e t)) c) a

  -- a change brings its slot to the new state, and leaves the other
  pub change_own : (u c : ℕ) → t ≤ u → state_after s u c (change s t c e) ≡ e
  change_own u c le = by (c == e) refl
    where
      by : (b : Bool) → (c == e) ≡ b → state_after s u c (cond b [] (word_by s e t ∷ [])) ≡ e
      by true is = grind (arith, nat_tests, is)
      by false is = by_word u c le

  pub change_other : (o u c d : ℕ) → o ≢ s → state_after o u c (change s t d e) ≡ c
  change_other o u c d other = by (d == e)
    where
      by : (b : Bool) → state_after o u c (cond b [] (word_by s e t ∷ [])) ≡ c
      by true = refl
      by false = by_other o u c other

  pub change_minutes : (P : ℕ → Type 0) (d : ℕ) → P t → Each (λ w. P (word_minute w)) (change s t d e)
  change_minutes P d holds = by (d == e)
    where
      by : (b : Bool) → Each (λ w. P (word_minute w)) (cond b [] (word_by s e t ∷ []))
      by true = tt
      by false = (Rattle.std.proofs.Common.subst P (sym minute_of) holds, tt)

pub each_append : {X : Type 0} (P : X → Type 0) (xs ys : List X) → Each P xs → Each P ys → Each P (xs ++ ys)
each_append P [] ys left right = right
each_append P (x ∷ xs) ys left right = (left.0, each_append P xs ys left.1 right)

-- the words that a minute brings after the minutes below `next`
module _ (next t d c d' c' : ℕ) (order : next ≤ t) (low : t < 1440) (short : d' < 16) (short' : c' < 16) where
  pub driver_by : (t' d0 c0 d1 c1 u : ℕ) → t' < 1440 → d1 < 16 → c1 < 16 → t' ≤ u → state_after 0 u d0 (changes t' d0 c0 d1 c1) ≡ d1
  driver_by t' d0 c0 d1 c1 u lower s1 s2 le =
      state_after_append 0 u d0 (change 0 t' d0 d1) (change 1 t' c0 c1) ∙ ap (λ (e : ℕ). state_after 0 u e (change 1 t' c0 c1)) (change_own 0 d1 t' (omega arith) s1 (omega arith) u d0 le)
      ∙ change_other 1 c1 t' (omega arith) s2 (omega arith) 0 u d1 c0 (omega arith)

  pub codriver_by : (t' d0 c0 d1 c1 u : ℕ) → t' < 1440 → d1 < 16 → c1 < 16 → t' ≤ u → state_after 1 u c0 (changes t' d0 c0 d1 c1) ≡ c1
  codriver_by t' d0 c0 d1 c1 u lower s1 s2 le =
      state_after_append 1 u c0 (change 0 t' d0 d1) (change 1 t' c0 c1) ∙ ap (λ (e : ℕ). state_after 1 u e (change 1 t' c0 c1)) (change_other 0 d1 t' (omega arith) s1 (omega arith) 1 u c0 d0 (omega arith))
      ∙ change_own 1 c1 t' (omega arith) s2 (omega arith) u c0 le

  pub minutes_by : (P : ℕ → Type 0) (t' d0 c0 d1 c1 : ℕ) → t' < 1440 → d1 < 16 → c1 < 16 → P t' → Each (λ w. P (word_minute w)) (changes t' d0 c0 d1 c1)
  minutes_by P t' d0 c0 d1 c1 lower s1 s2 holds = each_append (λ w. P (word_minute w)) (change 0 t' d0 d1) (change 1 t' c0 c1)
      (change_minutes 0 d1 t' (omega arith) s1 (omega arith) P d0 holds) (change_minutes 1 c1 t' (omega arith) s2 (omega arith) P c0 holds)

  pub new_minutes : (P : ℕ → Type 0) → P next → P t → Each (λ w. P (word_minute w)) (new_words next t d c d' c')
  new_minutes P first last = by (next == t)
    where
      by : (b : Bool) → Each (λ w. P (word_minute w)) (cond b (changes t d c d' c') (changes next d c bare bare ++ changes t bare bare d' c'))
      by true = minutes_by P t d c d' c' low short short' last
      by false = each_append (λ w. P (word_minute w)) (changes next d c bare bare) (changes t bare bare d' c')
          (minutes_by P next d c bare bare (omega arith) (omega arith) (omega arith) first) (minutes_by P t bare bare d' c' low short short' last)

  pub new_driver : state_after 0 t d (new_words next t d c d' c') ≡ d'
  new_driver = by (next == t)
    where
      by : (b : Bool) → state_after 0 t d (cond b (changes t d c d' c') (changes next d c bare bare ++ changes t bare bare d' c')) ≡ d'
      by true = driver_by t d c d' c' t low short short' (omega arith)
      by false = state_after_append 0 t d (changes next d c bare bare) (changes t bare bare d' c')
          ∙ ap (λ (e : ℕ). state_after 0 t e (changes t bare bare d' c')) (driver_by next d c bare bare t (omega arith) (omega arith) (omega arith) order)
          ∙ driver_by t bare bare d' c' t low short short' (omega arith)

  pub new_codriver : state_after 1 t c (new_words next t d c d' c') ≡ c'
  new_codriver = by (next == t)
    where
      by : (b : Bool) → state_after 1 t c (cond b (changes t d c d' c') (changes next d c bare bare ++ changes t bare bare d' c')) ≡ c'
      by true = codriver_by t d c d' c' t low short short' (omega arith)
      by false = state_after_append 1 t c (changes next d c bare bare) (changes t bare bare d' c')
          ∙ ap (λ (e : ℕ). state_after 1 t e (changes t bare bare d' c')) (codriver_by next d c bare bare t (omega arith) (omega arith) (omega arith) order)
          ∙ codriver_by t bare bare d' c' t low short short' (omega arith)

  pub gap_driver : (u : ℕ) → next ≤ u → u < t → state_after 0 u d (new_words next t d c d' c') ≡ bare
  gap_driver u first last =
      let apart : (next == t) ≡ false = grind (arith, nat_tests) in
      ap (λ (b : Bool). state_after 0 u d (cond b (changes t d c d' c') (changes next d c bare bare ++ changes t bare bare d' c'))) apart
      ∙ state_after_append 0 u d (changes next d c bare bare) (changes t bare bare d' c')
      ∙ ap (λ (e : ℕ). state_after 0 u e (changes t bare bare d' c')) (driver_by next d c bare bare u (omega arith) (omega arith) (omega arith) first)
      ∙ state_later 0 u bare (changes t bare bare d' c') (minutes_by (λ n. u < n) t bare bare d' c' low short short' last)

  pub gap_codriver : (u : ℕ) → next ≤ u → u < t → state_after 1 u c (new_words next t d c d' c') ≡ bare
  gap_codriver u first last =
      let apart : (next == t) ≡ false = grind (arith, nat_tests) in
      ap (λ (b : Bool). state_after 1 u c (cond b (changes t d c d' c') (changes next d c bare bare ++ changes t bare bare d' c'))) apart
      ∙ state_after_append 1 u c (changes next d c bare bare) (changes t bare bare d' c')
      ∙ ap (λ (e : ℕ). state_after 1 u e (changes t bare bare d' c')) (codriver_by next d c bare bare u (omega arith) (omega arith) (omega arith) first)
      ∙ state_later 1 u bare (changes t bare bare d' c') (minutes_by (λ n. u < n) t bare bare d' c' low short short' last)
