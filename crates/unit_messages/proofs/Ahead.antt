-- Entries of which each is there and chosen: those before a window's begin pass by without being read.
use Rattle.std.proofs.Common.{◌≡◌, ◌∙◌, ℕ, ◌+◌, ◌-◌, ◌*◌, ◌≤◌, ◌<◌, List, [], ◌∷◌, ◌++◌, length, sym, ap, arith, append_assoc, length-append}
use Rattle.std.specs.List.{range_with_len}
use Rattle.card_layout.specs.Fields.{joined}
use Rattle.gated_ring.specs.Ring.{order}
use Rattle.gated_ring.proofs.Orders.{Each, range_each, each_append}
use Rattle.unit_model.specs.declared.layout.TheConstants.{IMAGE_SIZE}
use Rattle.unit_model.proofs.Words.{range_add}
use Rattle.unit_messages.specs.declared.entries.Entries.{Entries}
use Rattle.unit_messages.specs.Windows.{Sight, passed}
use Rattle.unit_messages.specs.Chosen.{chosen_at, shape_of, AreEntries}
use Rattle.unit_messages.proofs.Choosing.{chosen_both, chosen_joined}
use Rattle.unit_messages.proofs.Counting.{all_counted, all_few, range_long}
use Rattle.unit_messages.proofs.Windows.{passed_both, passed_none}

module _ (e : Entries) (are : AreEntries e) (x : List ℕ) (whole : IMAGE_SIZE ≤ length x) where
  -- some in front are passed over
  pub ahead_passed : (is js : List ℕ) (u v w : Sight) → Each (λ j. j < e.count) is → length (chosen_at (shape_of e) e.choice x (is ++ js)) ≡ length (is ++ js)
      → ((bytes : List ℕ) → length bytes ≡ length is * e.width → v ≡ passed w bytes) → u ≡ passed v (joined (chosen_at (shape_of e) e.choice x js))
      → u ≡ passed w (joined (chosen_at (shape_of e) e.choice x (is ++ js)))
  ahead_passed is js u v w below full over after =
      let a = chosen_at (shape_of e) e.choice x is in
      let b = chosen_at (shape_of e) e.choice x js in
      let parts = ap length (chosen_both (shape_of e) e.choice x is js) ∙ length-append a b in
      let all : length a ≡ length is = omega (arith, full, parts, length-append is js, all_few e are x whole is, all_few e are x whole js) in
      let bytes : length (joined a) ≡ length is * e.width = all_counted e are x whole is below ∙ ap (λ (n : ℕ). n * e.width) all in
      after
      ∙ ap (λ (s : Sight). passed s (joined b)) (over (joined a) bytes)
      ∙ passed_both w (joined a) (joined b)
      ∙ ap (passed w) (sym (chosen_joined (shape_of e) e.choice x is js))

  order_long : (turn : ℕ) → turn ≤ e.count → length (order (shape_of e) turn) ≡ e.count
  order_long turn low = omega (arith, low, length-append (range_with_len turn (e.count - turn)) (range_with_len 0 turn), range_long turn (e.count - turn), range_long 0 turn)

  ranges_below : (from n : ℕ) → from + n ≤ e.count → Each (λ j. j < e.count) (range_with_len from n)
  ranges_below from n end = range_each (λ j. j < e.count) from n (λ j low high. omega (arith, end, high))

  -- the first of the round are passed over, and begin the rest before the end
  pub first_passed : (turn ahead : ℕ) (u v t w : Sight) → turn ≤ e.count → turn + ahead ≤ e.count → length (chosen_at (shape_of e) e.choice x (order (shape_of e) turn)) ≡ e.count
      → ((bytes : List ℕ) → length bytes ≡ ahead * e.width → t ≡ passed w bytes)
      → v ≡ passed t (joined (chosen_at (shape_of e) e.choice x (range_with_len (turn + ahead) (e.count - (turn + ahead)))))
      → u ≡ passed v (joined (chosen_at (shape_of e) e.choice x (range_with_len 0 (turn - 0))))
      → u ≡ passed w (joined (chosen_at (shape_of e) e.choice x (order (shape_of e) turn)))
  first_passed turn ahead u v t w low end full over then last =
      let front = range_with_len turn ahead in
      let inner = range_with_len (turn + ahead) (e.count - (turn + ahead)) in
      let back = range_with_len 0 turn in
      let count : e.count - turn ≡ ahead + (e.count - (turn + ahead)) = omega (arith, low, end) in
      let split : order (shape_of e) turn ≡ front ++ (inner ++ back) =
      ap (λ (n : ℕ). range_with_len turn n ++ back) count ∙ ap (λ (l : List ℕ). l ++ back) (range_add turn ahead (e.count - (turn + ahead))) ∙ append_assoc front inner back in
      let none : turn - 0 ≡ turn = omega arith in
      let rest : u ≡ passed t (joined (chosen_at (shape_of e) e.choice x (inner ++ back))) =
      last
      ∙ ap (λ (n : ℕ). passed v (joined (chosen_at (shape_of e) e.choice x (range_with_len 0 n)))) none
      ∙ ap (λ (s : Sight). passed s (joined (chosen_at (shape_of e) e.choice x back))) then
      ∙ passed_both t (joined (chosen_at (shape_of e) e.choice x inner)) (joined (chosen_at (shape_of e) e.choice x back))
      ∙ ap (passed t) (sym (chosen_joined (shape_of e) e.choice x inner back)) in
      let long : length front ≡ ahead = range_long turn ahead in
      let each : length (chosen_at (shape_of e) e.choice x (front ++ (inner ++ back))) ≡ length (front ++ (inner ++ back)) =
      ap (λ (l : List ℕ). length (chosen_at (shape_of e) e.choice x l)) (sym split) ∙ full ∙ sym (order_long turn low) ∙ ap length split in
      ahead_passed front (inner ++ back) u t w (ranges_below turn ahead end) each (λ bytes is. over bytes (is ∙ ap (λ (n : ℕ). n * e.width) long)) rest
      ∙ ap (λ (l : List ℕ). passed w (joined (chosen_at (shape_of e) e.choice x l))) (sym split)

  -- or they reach round the end
  pub round_ahead : (turn ahead : ℕ) (u t w : Sight) → turn ≤ e.count → ahead ≤ e.count → e.count - turn < ahead → length (chosen_at (shape_of e) e.choice x (order (shape_of e) turn)) ≡ e.count
      → ((bytes : List ℕ) → length bytes ≡ ahead * e.width → t ≡ passed w bytes)
      → u ≡ passed t (joined (chosen_at (shape_of e) e.choice x (range_with_len (ahead - (e.count - turn)) (turn - (ahead - (e.count - turn))))))
      → u ≡ passed w (joined (chosen_at (shape_of e) e.choice x (order (shape_of e) turn)))
  round_ahead turn ahead u t w low few end full over last =
      let k : ℕ = ahead - (e.count - turn) in
      let front = range_with_len turn (e.count - turn) in
      let inner = range_with_len 0 k in
      let back = range_with_len k (turn - k) in
      let count : turn ≡ k + (turn - k) = omega (arith, low, few, end) in
      let from : 0 + k ≡ k = omega arith in
      let split : order (shape_of e) turn ≡ (front ++ inner) ++ back =
      ap (λ (n : ℕ). front ++ range_with_len 0 n) count
      ∙ ap (λ (l : List ℕ). front ++ l) (range_add 0 k (turn - k) ∙ ap (λ (n : ℕ). inner ++ range_with_len n (turn - k)) from)
      ∙ sym (append_assoc front inner back) in
      let long : length (front ++ inner) ≡ ahead = omega (arith, length-append front inner, range_long turn (e.count - turn), range_long 0 k, low, few, end) in
      let each : length (chosen_at (shape_of e) e.choice x ((front ++ inner) ++ back)) ≡ length ((front ++ inner) ++ back) =
      ap (λ (l : List ℕ). length (chosen_at (shape_of e) e.choice x l)) (sym split) ∙ full ∙ sym (order_long turn low) ∙ ap length split in
      ahead_passed (front ++ inner) back u t w (each_append (λ j. j < e.count) front inner (ranges_below turn (e.count - turn) (omega (arith, low))) (ranges_below 0 k (omega (arith, low, few, end)))) each
      (λ bytes is. over bytes (is ∙ ap (λ (n : ℕ). n * e.width) long)) last
      ∙ ap (λ (l : List ℕ). passed w (joined (chosen_at (shape_of e) e.choice x l))) (sym split)

-- none is passed over
pub none_ahead : (v w : Sight) (bytes : List ℕ) (width : ℕ) → v ≡ w → length bytes ≡ 0 * width → v ≡ passed w bytes
none_ahead v w [] width same none = same ∙ sym (passed_none w)
none_ahead v w (b ∷ bytes) width same none = absurd (omega (arith, none))
