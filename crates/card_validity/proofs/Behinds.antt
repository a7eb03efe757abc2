-- What was seen of the words behind the mark, with one word more, and at the end.
use Rattle.std.proofs.Common.{◌≡◌, ℕ, suc, ◌+◌, ◌*◌, ◌<◌, Bool, true, false, cond, not, Option, Some, None, List, [], ◌∷◌, ◌++◌, length, get_or, take, refl, sym, ◌∙◌, ap, subst, arith, append_assoc, add-one, length-take}
use Rattle.std.specs.Prelude.{nat_eq, nat_le, nat_lt, ◌&&◌}
use Rattle.std.proofs.lemmas.List.{append-nil}
use Rattle.std.proofs.Math.Seq.{take-suc}
use Rattle.std.proofs.lemmas.List.Elements.{filter-append}
use Rattle.std.proofs.lemmas.Grind.{common_steps}
use Rattle.card_image.specs.card_model.Changes.{date_of}
use Rattle.card_image.specs.card_model.Checks.{first_failing, file_place}
use Rattle.card_image.specs.Fields.{last_of}
use Rattle.card_image.specs.Judging.{PlacedWord, minute_at, tells_none, leaves_gap, closing_checks, words_behind_mark, words_placed}
use Rattle.card_validity.specs.declared.behind.Behind.{Behind}
use Rattle.card_validity.specs.declared.behind.First.{First}
use Rattle.card_validity.specs.Words.{up_to, beyond, is_left_open, first_by, with_check, first_after, bad_after, seen_by, answer_by, others_checks, AreBehind, IsBehind}

pub last_of-append : (ws : List PlacedWord) (w : PlacedWord) → last_of (ws ++ w ∷ []) ≡ Some w
last_of-append [] w = refl
last_of-append (v ∷ []) w = refl
last_of-append (v ∷ u ∷ ws) w = last_of-append (u ∷ ws) w

others_more : (ws : List PlacedWord) (w : PlacedWord) → first_failing (others_checks (ws ++ w ∷ [])) ≡ with_check (first_failing (others_checks ws)) (tells_none w) w.place
others_more [] w = refl
others_more (v ∷ ws) w = by (tells_none v) (others_more ws w)
  where
    by : (t : Bool) → first_failing (others_checks (ws ++ w ∷ [])) ≡ with_check (first_failing (others_checks ws)) (tells_none w) w.place
        → cond t (first_failing (others_checks (ws ++ w ∷ []))) (Some v.place) ≡ with_check (cond t (first_failing (others_checks ws)) (Some v.place)) (tells_none w) w.place
    by true rest = rest
    by false rest = refl

behind_more : (mark : ℕ) (vs : List PlacedWord) (w : PlacedWord) (first : Option First) (bad : Option ℕ) → AreBehind mark vs first bad → AreBehind mark (vs ++ w ∷ []) (first_after mark first w) (bad_after first bad w)
behind_more mark [] w first bad are =
    subst (λ (f : Option First). (first_after mark f w ≡ Some (first_by mark w)) × (bad_after f bad w ≡ None)) (sym are.0) (refl, are.1)
behind_more mark (v ∷ vs) w first bad are =
    subst (λ (f : Option First). (first_after mark f w ≡ Some (first_by mark v)) × (bad_after f bad w ≡ first_failing (others_checks (vs ++ w ∷ [])))) (sym are.0)
    (refl, ap (λ (b : Option ℕ). with_check b (tells_none w) w.place) are.1 ∙ sym (others_more vs w))

module _ (mark : ℕ) (ws : List PlacedWord) (w : PlacedWord) (b : Behind) (is : IsBehind mark ws b) where
  up_more : up_to mark (ws ++ w ∷ []) ≡ up_to mark ws ++ cond (nat_le (minute_at w) mark) (w ∷ []) []
  up_more = filter-append (λ v. nat_le (minute_at v) mark) ws (w ∷ [])

  beyond_more : beyond mark (ws ++ w ∷ []) ≡ beyond mark ws ++ cond (nat_lt mark (minute_at w)) (w ∷ []) []
  beyond_more = filter-append (λ v. nat_lt mark (minute_at v)) ws (w ∷ [])

  by_test : (t u : Bool) → nat_le (minute_at w) mark ≡ t → nat_lt mark (minute_at w) ≡ u → not t ≡ u
      → IsBehind mark (ws ++ w ∷ []) (cond t (record { unclosed = is_left_open mark (Some w); first = b.first; bad = b.bad }) (record { unclosed = b.unclosed; first = first_after mark b.first w; bad = bad_after b.first b.bad w }))
  by_test true false low high apart =
      let ups = up_more ∙ ap (λ (t : Bool). up_to mark ws ++ cond t (w ∷ []) []) low in
      let none = beyond_more ∙ ap (λ (t : Bool). beyond mark ws ++ cond t (w ∷ []) []) high ∙ append-nil (beyond mark ws) in
      record {
        unclosed = sym (ap (λ (l : List PlacedWord). is_left_open mark (last_of l)) ups ∙ ap (is_left_open mark) (last_of-append (up_to mark ws) w));
        behind = subst (λ (l : List PlacedWord). AreBehind mark l b.first b.bad) (sym none) is.behind;
      }
  by_test false true low high apart =
      let ups = up_more ∙ ap (λ (t : Bool). up_to mark ws ++ cond t (w ∷ []) []) low ∙ append-nil (up_to mark ws) in
      let more = beyond_more ∙ ap (λ (t : Bool). beyond mark ws ++ cond t (w ∷ []) []) high in
      record {
        unclosed = is.unclosed ∙ sym (ap (λ (l : List PlacedWord). is_left_open mark (last_of l)) ups);
        behind = subst (λ (l : List PlacedWord). AreBehind mark l (first_after mark b.first w) (bad_after b.first b.bad w)) (sym more) (behind_more mark (beyond mark ws) w b.first b.bad is.behind);
      }
  by_test true true low high apart = absurd cc
  by_test false false low high apart = absurd cc

  pub seen_more : IsBehind mark (ws ++ w ∷ []) (seen_by mark b w)
  seen_more =
      let apart : not (nat_le (minute_at w) mark) ≡ nat_lt mark (minute_at w) = grind (arith, common_steps) in
      by_test (nat_le (minute_at w) mark) (nat_lt mark (minute_at w)) refl refl apart

-- the words of a day, with one more
pub words_placed-append : (size oldest k date : ℕ) (ws : List ℕ) (w n : ℕ) → n ≡ k + 2 * length ws → words_placed size oldest k date (ws ++ w ∷ []) ≡ words_placed size oldest k date ws ++ record { date = date; word = w; place = file_place size oldest n } ∷ []
words_placed-append size oldest k date [] w n is =
    let same : k ≡ n = omega (arith, is) in
    ap (λ (m : ℕ). let p : PlacedWord = record { date = date; word = w; place = file_place size oldest m } in p ∷ []) same
words_placed-append size oldest k date (v ∷ ws) w n is =
    ap (λ (l : List PlacedWord). let p : PlacedWord = record { date = date; word = v; place = file_place size oldest k } in p ∷ l) (words_placed-append size oldest (k + 2) date ws w n (omega (arith, is)))

-- the first word closes what is open, or it does not
gap_is : (mark : ℕ) (o : Option PlacedWord) (w : PlacedWord) → leaves_gap mark o w ≡ (is_left_open mark o && not (nat_eq (minute_at w) (suc mark)))
gap_is mark None w = refl
gap_is mark (Some v) w = by (nat_eq v.date (date_of mark)) (not (tells_none v)) (not (nat_eq (minute_at w) (suc mark)))
  where
    by : (a b c : Bool) → (a && (b && c)) ≡ ((a && b) && c)
    by true b c = refl
    by false b c = refl

-- the answer at the end
pub behind_answer : (mark : ℕ) (ws : List PlacedWord) (b : Behind) → IsBehind mark ws b → answer_by b.unclosed b.first b.bad ≡ first_failing (words_behind_mark mark ws)
behind_answer mark ws b is = by (beyond mark ws) is.behind
  where
    by : (vs : List PlacedWord) → AreBehind mark vs b.first b.bad → answer_by b.unclosed b.first b.bad ≡ first_failing (closing_checks mark (last_of (up_to mark ws)) vs)
    by [] are = ap (λ (f : Option First). answer_by b.unclosed f b.bad) are.0
    by (v ∷ vs) are =
        let gap : leaves_gap mark (last_of (up_to mark ws)) v ≡ (b.unclosed && not (nat_eq (minute_at v) (suc mark))) = gap_is mark (last_of (up_to mark ws)) v ∙ ap (λ (t : Bool). t && not (nat_eq (minute_at v) (suc mark))) (sym is.unclosed) in
        ap (λ (f : Option First). answer_by b.unclosed f b.bad) are.0
        ∙ ap (λ (o : Option ℕ). cond (tells_none v && not (b.unclosed && not (nat_eq (minute_at v) (suc mark)))) o (Some v.place)) are.1
        ∙ ap (λ (t : Bool). cond (tells_none v && not t) (first_failing (others_checks vs)) (Some v.place)) (sym gap)

-- one word more of a day
pub words_more : (mark size oldest k date : ℕ) (words : List ℕ) (i w place : ℕ) (ws : List PlacedWord) (b c : Behind) → i < length words → w ≡ get_or words i 0 → place ≡ file_place size oldest (k + 2 * i) → c ≡ seen_by mark b (record { date = date; word = w; place = place })
    → IsBehind mark (ws ++ words_placed size oldest k date (take i words)) b → IsBehind mark (ws ++ words_placed size oldest k date (take (i + 1) words)) c
words_more mark size oldest k date words i w place ws b c below is at next seen =
    let v : PlacedWord = record { date = date; word = w; place = place } in
    let far : k + 2 * i ≡ k + 2 * length (take i words) = omega (arith, length-take i words) in
    let grown : take (i + 1) words ≡ take i words ++ w ∷ [] = ap (λ (n : ℕ). take n words) (add-one i) ∙ take-suc words i 0 below ∙ ap (λ (u : ℕ). take i words ++ u ∷ []) (sym is) in
    let more = words_placed-append size oldest k date (take i words) w (k + 2 * i) far in
    let placed : words_placed size oldest k date (take (i + 1) words) ≡ words_placed size oldest k date (take i words) ++ v ∷ [] =
    ap (words_placed size oldest k date) grown ∙ more ∙ ap (λ (p : ℕ). words_placed size oldest k date (take i words) ++ (let u : PlacedWord = record { date = date; word = w; place = p } in u) ∷ []) (sym at) in
    let whole : ws ++ words_placed size oldest k date (take (i + 1) words) ≡ (ws ++ words_placed size oldest k date (take i words)) ++ v ∷ [] =
    ap (λ (l : List PlacedWord). ws ++ l) placed ∙ sym (append_assoc ws (words_placed size oldest k date (take i words)) (v ∷ [])) in
    subst (λ (l : List PlacedWord). IsBehind mark l c) (sym whole) (subst (λ (d : Behind). IsBehind mark ((ws ++ words_placed size oldest k date (take i words)) ++ v ∷ []) d) (sym next) (seen_more mark (ws ++ words_placed size oldest k date (take i words)) v b seen))
