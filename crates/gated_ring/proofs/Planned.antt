-- What the writes of a plan leave of a ring.
use Rattle.std.proofs.Common.{◌≡◌, ◌≢◌, ◌⊎◌, inl, inr, ⊎_elim, ℕ, ◌+◌, ◌<◌, ◌≤◌, Bool, true, false, not, cond, List, [], ◌∷◌, ◌++◌, length, length-append, take, drop, replicate, refl, sym, ◌∙◌, ap, subst, arith, length-drop, Some, IfSome}
use Rattle.std.specs.Prelude.{◌==◌}
use Rattle.std.proofs.lemmas.Bool.Decides.{nat_tests}
use Rattle.std.proofs.lemmas.List.{length-take-le, take-append-drop}
use Rattle.tach_media.specs.Medium.{State, LeavesOnly, Reads, put, IsPartlyWritten}
use Rattle.tach_media.proofs.Runs.{weaken, after_reads, at_image, if_told}
use Rattle.tach_media.specs.Plan.{Piece, piece, put_all, IsPartway, PutsAll, PutsBy}
use Rattle.tach_media.proofs.Plans.{put_all-append, partway_either, puts_by}
use Rattle.gated_ring.specs.declared.room.Room.{Room}
use Rattle.gated_ring.specs.Ring.{Shape, IsShape, size_of, place_of, gate_of, pointer, PointsInside, is_there, taken, gate_bytes, gate_number, number_at}
use Rattle.gated_ring.specs.Change.{IsAdding, IsAdded, IsReplaced, IsReplacingEntry, pointer_writes, adding_writes}
use Rattle.gated_ring.specs.Plans.{some_piece, shut_pieces, body_pieces, pointer_bytes, pointer_pieces, gate_pieces, placing_pieces, room_in, adding_pieces, exchanging_pieces, replacing_pieces}
use Rattle.gated_ring.proofs.Steps.{freed, with_body, pointed, placed, replaced, IsFilling, IsPlacing, IsReplacing}
use Rattle.gated_ring.proofs.Places.{place_high}
use Rattle.gated_ring.proofs.Filling.{filling_front, filling_back}
use Rattle.gated_ring.proofs.Writing.{shut_0}
use Rattle.gated_ring.proofs.Adding.{adding, added}
use Rattle.gated_ring.proofs.Putting.{is_replaced, replacing}

-- no byte
none_put : (p : ℕ) (bytes x : List ℕ) → length bytes ≡ 0 → put p bytes x ≡ x
none_put p [] x none = ap (λ (n : ℕ). take p x ++ drop n x) (omega arith) ∙ take-append-drop p x
none_put p (b ∷ bytes) x none = absurd (omega (arith, none))

some_put : (p : ℕ) (bytes x : List ℕ) → put_all (some_piece p bytes) x ≡ put p bytes x
some_put p bytes x = by (length bytes == 0) refl
  where
    by : (t : Bool) → (length bytes == 0) ≡ t → put_all (cond t [] (piece p bytes ∷ [])) x ≡ put p bytes x
    by true none = sym (none_put p bytes x (grind (arith, nat_tests, none)))
    by false some = refl

some_partway : (p : ℕ) (bytes x c : List ℕ) → IsPartway (some_piece p bytes) x c → IsPartlyWritten p bytes x c
some_partway p bytes x c = by (length bytes == 0)
  where
    by : (t : Bool) → IsPartway (cond t [] (piece p bytes ∷ [])) x c → IsPartlyWritten p bytes x c
    by true here = absurd here
    by false (inl part) = part
    by false (inr none) = absurd none

some_few : (p : ℕ) (bytes : List ℕ) → length (some_piece p bytes) ≤ 1
some_few p bytes = by (length bytes == 0)
  where
    by : (t : Bool) → length (cond t [] (piece p bytes ∷ [])) ≤ 1
    by true = omega arith
    by false = omega arith

shut_put : (r : Shape) (i : ℕ) (x : List ℕ) → put_all (shut_pieces r i (is_there r x i)) x ≡ freed r i x
shut_put r i x = by (is_there r x i)
  where
    by : (b : Bool) → put_all (cond b (piece (gate_of r i) (replicate 4 0) ∷ []) []) x ≡ cond b (put (gate_of r i) (replicate 4 0) x) x
    by true = refl
    by false = refl

shut_partway : (r : Shape) (i : ℕ) (x c : List ℕ) (used : Bool) → IsPartway (shut_pieces r i used) x c → IsPartlyWritten (gate_of r i) (replicate 4 0) x c
shut_partway r i x c true (inl part) = part
shut_partway r i x c true (inr none) = absurd none
shut_partway r i x c false none = absurd none

pointer_put : (r : Shape) (last i : ℕ) (x : List ℕ) → put_all (pointer_pieces r last i) x ≡ pointed r last i x
pointer_put r last i x = by (last == i)
  where
    by : (b : Bool) → put_all (cond b [] (piece r.base (pointer_bytes r i) ∷ [])) x ≡ cond b x (put r.base (pointer_bytes r i) x)
    by true = refl
    by false = refl

pointer_partway : (r : Shape) (last i : ℕ) (x c : List ℕ) → IsPartway (pointer_pieces r last i) x c → IsPartlyWritten r.base (pointer_bytes r i) x c
pointer_partway r last i x c = by (last == i)
  where
    by : (b : Bool) → IsPartway (cond b [] (piece r.base (pointer_bytes r i) ∷ [])) x c → IsPartlyWritten r.base (pointer_bytes r i) x c
    by true here = absurd here
    by false (inl part) = part
    by false (inr none) = absurd none

body_put : (r : Shape) (i : ℕ) (head x : List ℕ) → put_all (body_pieces r i head) x ≡ with_body r i head x
body_put r i head x =
    put_all-append (some_piece (place_of r i) (take r.gate head)) (some_piece (gate_of r i + 4) (drop (r.gate + 4) head)) x
    ∙ some_put (gate_of r i + 4) (drop (r.gate + 4) head) (put_all (some_piece (place_of r i) (take r.gate head)) x)
    ∙ ap (put (gate_of r i + 4) (drop (r.gate + 4) head)) (some_put (place_of r i) (take r.gate head) x)

-- how many writes these are
shut_few : (r : Shape) (i : ℕ) (used : Bool) → length (shut_pieces r i used) ≡ cond used 1 0
shut_few r i true = refl
shut_few r i false = refl

pointer_few : (r : Shape) (last i : ℕ) → length (pointer_pieces r last i) ≡ pointer_writes last i
pointer_few r last i = by (last == i)
  where
    by : (b : Bool) → length (cond b [] (piece r.base (pointer_bytes r i) ∷ [])) ≡ cond b 0 1
    by true = refl
    by false = refl

body_few : (r : Shape) (i : ℕ) (head : List ℕ) → length (body_pieces r i head) ≤ 2
body_few r i head =
    let front : List Piece = some_piece (place_of r i) (take r.gate head) in
    let back : List Piece = some_piece (gate_of r i + 4) (drop (r.gate + 4) head) in
    omega (arith, length-append front back, some_few (place_of r i) (take r.gate head), some_few (gate_of r i + 4) (drop (r.gate + 4) head))

at_most_one : (b : Bool) → cond b 1 0 ≤ 1
at_most_one true = omega arith
at_most_one false = omega arith

at_least_none : (b : Bool) → cond b 0 1 ≤ 1
at_least_none true = omega arith
at_least_none false = omega arith

module _ (r : Shape) (room : Room) (head : List ℕ) where
  abbrev shut : List Piece
  shut = shut_pieces r room.index room.used

  abbrev body : List Piece
  body = body_pieces r room.index head

  abbrev moved : List Piece
  moved = pointer_pieces r room.last room.index

  abbrev gate : List Piece
  gate = gate_pieces r room.index head

  pub placing_length : length (placing_pieces r room head) ≡ cond room.used 1 0 + (length body + (pointer_writes room.last room.index + 1))
  placing_length = omega (arith, length-append shut (body ++ (moved ++ gate)), length-append body (moved ++ gate), length-append moved gate, shut_few r room.index room.used, pointer_few r room.last room.index)

  pub placing_few : length (placing_pieces r room head) ≤ cond room.used 1 0 + (3 + pointer_writes room.last room.index)
  placing_few = omega (arith, placing_length, body_few r room.index head)

  pub placing_some : (1 ≤ length (placing_pieces r room head)) × (length (placing_pieces r room head) ≤ 5)
  placing_some = (omega (arith, placing_length), omega (arith, placing_few, at_most_one room.used, at_least_none (room.last == room.index)))

module _ (r : Shape) (i : ℕ) (used : Bool) (head : List ℕ) where
  pub exchanging_few : length (exchanging_pieces r i used head) ≤ cond used 1 0 + 3
  exchanging_few = omega (arith, length-append (shut_pieces r i used) (body_pieces r i head ++ gate_pieces r i head), length-append (body_pieces r i head) (gate_pieces r i head), shut_few r i used, body_few r i head)

  pub exchanging_some : (1 ≤ length (exchanging_pieces r i used head)) × (length (exchanging_pieces r i used head) ≤ 4)
  exchanging_some = (
    omega (arith, length-append (shut_pieces r i used) (body_pieces r i head ++ gate_pieces r i head), length-append (body_pieces r i head) (gate_pieces r i head)),
    omega (arith, exchanging_few, at_most_one used),
  )

-- the room that was read is that of the image
pub room_is : (r : Shape) (x : List ℕ) (room : Room) → room.last ≡ pointer r x → room.index ≡ taken r x → room.used ≡ is_there r x room.index → room ≡ room_in r x
room_is r x room last index used = λ t. record { last = last t; index = index t; used = (used ∙ ap (is_there r x) index) t }

module _ (r : Shape) (shape : IsShape r) (x : List ℕ) (inside : r.base + size_of r ≤ length x) (i : ℕ) (below : i < r.count)
    (head : List ℕ) (gate_fits : r.gate + 4 ≤ length head) (width_fits : length head ≤ r.width) (used : Bool) (used_is : used ≡ is_there r x i) where
  abbrev front : List ℕ
  front = take r.gate head

  abbrev back : List ℕ
  back = drop (r.gate + 4) head

  abbrev y0 : List ℕ
  y0 = freed r i x

  abbrev y1 : List ℕ
  y1 = with_body r i head y0

  freed_put : put_all (shut_pieces r i used) x ≡ y0
  freed_put = ap (λ (b : Bool). put_all (shut_pieces r i b) x) used_is ∙ shut_put r i x

  body_placed : put_all (body_pieces r i head) (put_all (shut_pieces r i used) x) ≡ y1
  body_placed = body_put r i head (put_all (shut_pieces r i used) x) ∙ ap (with_body r i head) freed_put

  front_length : length front ≡ r.gate
  front_length = length-take-le r.gate head (omega (arith, gate_fits))

  entry_inside : place_of r i + r.width ≤ length y0
  entry_inside = omega (arith, place_high r i below, inside, (shut_0 r shape x inside i below head gate_fits width_fits).outside.same_length)

  body_partway : (c : List ℕ) → IsPartway (body_pieces r i head) y0 c → IsFilling r i y0 c
  body_partway c here = ⊎_elim
      (λ part. filling_front r i (place_of r i) front y0 refl (omega (arith, front_length)) shape.gate c (some_partway (place_of r i) front y0 c part))
      (λ part. filling_back r i (place_of r i) front y0 refl (omega (arith, front_length)) shape.gate (gate_of r i + 4) back c refl (omega (arith, length-drop (r.gate + 4) head, gate_fits, width_fits)) entry_inside
      (subst (λ (y : List ℕ). IsPartlyWritten (gate_of r i + 4) back y c) (some_put (place_of r i) front y0) (some_partway (gate_of r i + 4) back (put_all (some_piece (place_of r i) front) y0) c part)))
      (partway_either (some_piece (place_of r i) front) (some_piece (gate_of r i + 4) back) y0 c here)

  gate_partway : (y c : List ℕ) → IsPartway (gate_pieces r i head) y c → IsPartlyWritten (gate_of r i) (gate_bytes r head) y c
  gate_partway y c (inl part) = part
  gate_partway y c (inr none) = absurd none

  -- a plan that begins so goes on behind these bytes
  begun : (rest : List Piece) (c : List ℕ) → IsPartway (shut_pieces r i used ++ (body_pieces r i head ++ rest)) x c
      → IsPartlyWritten (gate_of r i) (replicate 4 0) x c ⊎ (IsFilling r i y0 c ⊎ IsPartway rest y1 c)
  begun rest c here = ⊎_elim
      (λ part. inl (shut_partway r i x c used part))
      (λ part. inr (⊎_elim
      (λ body. inl (body_partway c (subst (λ (y : List ℕ). IsPartway (body_pieces r i head) y c) freed_put body)))
      (λ behind. inr (subst (λ (y : List ℕ). IsPartway rest y c) body_placed behind))
      (partway_either (body_pieces r i head) rest (put_all (shut_pieces r i used) x) c part)))
      (partway_either (shut_pieces r i used) (body_pieces r i head ++ rest) x c here)

  begun_put : (rest : List Piece) → put_all (shut_pieces r i used ++ (body_pieces r i head ++ rest)) x ≡ put_all rest y1
  begun_put rest =
      put_all-append (shut_pieces r i used) (body_pieces r i head ++ rest) x ∙ put_all-append (body_pieces r i head) rest (put_all (shut_pieces r i used) x) ∙ ap (put_all rest) body_placed

  -- of an entry that takes another's place
  pub exchanged : put_all (exchanging_pieces r i used head) x ≡ replaced r i head x
  exchanged = begun_put (gate_pieces r i head)

  exchanging : (c : List ℕ) → IsPartway (exchanging_pieces r i used head) x c → IsReplacing r i head x c
  exchanging c here = ⊎_elim inl (λ more. inr (⊎_elim inl (λ last. inr (gate_partway y1 c last)) more)) (begun (gate_pieces r i head) c here)

  module _ (gate_open : gate_number r head ≢ 0) where
    pub exchanging_moment : (c : List ℕ) → IsPartway (exchanging_pieces r i used head) x c → IsReplacingEntry r i head x c
    exchanging_moment c here = replacing r shape x inside i below head gate_fits width_fits gate_open c (exchanging c here)

    pub exchanging_end : (y : List ℕ) → y ≡ put_all (exchanging_pieces r i used head) x → IsReplaced r i head x y
    exchanging_end y is = is_replaced r shape x inside i below head gate_fits width_fits gate_open y (is ∙ exchanged)

  -- and of a new one
  module _ (last : ℕ) where
    abbrev room : Room
    room = record { last = last; index = i; used = used }

    placing_put : put_all (placing_pieces r room head) x ≡ placed r last i head x
    placing_put = begun_put (pointer_pieces r last i ++ gate_pieces r i head) ∙ put_all-append (pointer_pieces r last i) (gate_pieces r i head) y1
        ∙ ap (put (gate_of r i) (gate_bytes r head)) (pointer_put r last i y1)

    placing : (c : List ℕ) → IsPartway (placing_pieces r room head) x c → IsPlacing r last i head x c
    placing c here = ⊎_elim inl
        (λ more. inr (⊎_elim inl
        (λ rest. inr (⊎_elim
        (λ part. inl (pointer_partway r last i y1 c part))
        (λ part. inr (gate_partway (pointed r last i y1) c (subst (λ (y : List ℕ). IsPartway (gate_pieces r i head) y c) (pointer_put r last i y1) part)))
        (partway_either (pointer_pieces r last i) (gate_pieces r i head) y1 c rest)))
        more))
        (begun (pointer_pieces r last i ++ gate_pieces r i head) c here)

    module _ (some : 0 < r.pointer_width) (is_last : PointsInside r x → last ≡ pointer r x) (is_taken : PointsInside r x → i ≡ taken r x) (gate_open : gate_number r head ≢ 0) where
      pub placing_moment : (c : List ℕ) → IsPartway (placing_pieces r room head) x c → IsAdding r head x c
      placing_moment c here = adding r shape some x inside last i below is_last is_taken head gate_fits width_fits gate_open c (placing c here)

      pub placing_end : (y : List ℕ) → y ≡ put_all (placing_pieces r room head) x → IsAdded r head x y
      placing_end y is = added r shape some x inside last i below is_last is_taken head gate_fits width_fits gate_open y (is ∙ placing_put)

-- the writes of an `add`, after its reads
module _ (r : Shape) (head : List ℕ) (room : Room) (old mid new : State) (reads : Reads old mid false)
    (last : IfSome old.image (λ x. PointsInside r x → room.last ≡ pointer r x)) (index : IfSome old.image (λ x. PointsInside r x → room.index ≡ taken r x)) (used : IfSome old.image (λ x. room.used ≡ is_there r x room.index))
    (failed : Bool) (puts : PutsAll mid new failed (placing_pieces r room head)) where
  pub room_at : (x : List ℕ) → old.image ≡ Some x → PointsInside r x → room ≡ room_in r x
  room_at x was known = room_is r x room (at_image (λ x. PointsInside r x → room.last ≡ pointer r x) was last known) (at_image (λ x. PointsInside r x → room.index ≡ taken r x) was index known) (at_image (λ x. room.used ≡ is_there r x room.index) was used)

  pub add_puts : IfSome old.image (PointsInside r) → PutsBy old new failed 1 5 (adding_pieces r head)
  add_puts known = puts_by (placing_pieces r room head) (adding_pieces r head) reads
      (if_told old.image (λ x. adding_pieces r head x ≡ placing_pieces r room head) (λ x was. sym (ap (λ (m : Room). placing_pieces r m head) (room_at x was (at_image (PointsInside r) was known)))))
      puts (placing_some r room head).0 (placing_some r room head).1

  pub add_writes : (x : List ℕ) → old.image ≡ Some x → PointsInside r x → new.clock ≤ old.clock + adding_writes r x
  add_writes x was known = omega (arith, puts.clock, reads.clock, placing_few r room head, ap (λ (m : Room). cond m.used 1 0 + (3 + pointer_writes m.last m.index)) (room_at x was known))

  module _ (shape : IsShape r) (some : 0 < r.pointer_width) (sized : (x : List ℕ) → old.image ≡ Some x → r.base + size_of r ≤ length x) (below : room.index < r.count)
      (gate_fits : r.gate + 4 ≤ length head) (width_fits : length head ≤ r.width) (gate_open : gate_number r head ≢ 0) where
    pub add_moments : LeavesOnly old new (IsAdding r head)
    add_moments = after_reads reads.leaves (reads.same refl) (weaken puts.leaves (λ x c is here.
        let was : old.image ≡ Some x = sym (reads.same refl) ∙ is in
        placing_moment r shape x (sized x was) room.index below head gate_fits width_fits room.used (at_image (λ x. room.used ≡ is_there r x room.index) was used) room.last some
        (at_image (λ x. PointsInside r x → room.last ≡ pointer r x) was last) (at_image (λ x. PointsInside r x → room.index ≡ taken r x) was index) gate_open c here))

    pub add_end : (x y : List ℕ) → old.image ≡ Some x → y ≡ put_all (placing_pieces r room head) x → IsAdded r head x y
    add_end x y was is = placing_end r shape x (sized x was) room.index below head gate_fits width_fits room.used (at_image (λ x. room.used ≡ is_there r x room.index) was used) room.last some
        (at_image (λ x. PointsInside r x → room.last ≡ pointer r x) was last) (at_image (λ x. PointsInside r x → room.index ≡ taken r x) was index) gate_open y is

-- and those of a `put_at`, after its gate was read
module _ (r : Shape) (i : ℕ) (head : List ℕ) (gate : ℕ) (old mid new : State) (reads : Reads old mid false) (value : IfSome old.image (λ x. gate ≡ number_at x (gate_of r i) 4))
    (failed : Bool) (puts : PutsAll mid new failed (exchanging_pieces r i (not (gate == 0)) head)) where
  used_at : (x : List ℕ) → old.image ≡ Some x → not (gate == 0) ≡ is_there r x i
  used_at x was = ap (λ (n : ℕ). not (n == 0)) (at_image (λ x. gate ≡ number_at x (gate_of r i) 4) was value)

  pub put_puts : PutsBy old new failed 1 4 (replacing_pieces r i head)
  put_puts = puts_by (exchanging_pieces r i (not (gate == 0)) head) (replacing_pieces r i head) reads
      (if_told old.image (λ x. replacing_pieces r i head x ≡ exchanging_pieces r i (not (gate == 0)) head) (λ x was. sym (ap (λ (b : Bool). exchanging_pieces r i b head) (used_at x was))))
      puts (exchanging_some r i (not (gate == 0)) head).0 (exchanging_some r i (not (gate == 0)) head).1

  module _ (shape : IsShape r) (sized : (x : List ℕ) → old.image ≡ Some x → r.base + size_of r ≤ length x) (below : i < r.count)
      (gate_fits : r.gate + 4 ≤ length head) (width_fits : length head ≤ r.width) (gate_open : gate_number r head ≢ 0) where
    pub put_moments : LeavesOnly old new (IsReplacingEntry r i head)
    put_moments = after_reads reads.leaves (reads.same refl) (weaken puts.leaves (λ x c is here.
        let was : old.image ≡ Some x = sym (reads.same refl) ∙ is in
        exchanging_moment r shape x (sized x was) i below head gate_fits width_fits (not (gate == 0)) (used_at x was) gate_open c here))

    pub put_end : (x y : List ℕ) → old.image ≡ Some x → y ≡ put_all (exchanging_pieces r i (not (gate == 0)) head) x → IsReplaced r i head x y
    put_end x y was is = exchanging_end r shape x (sized x was) i below head gate_fits width_fits (not (gate == 0)) (used_at x was) gate_open y is
