-- Where the fields of an overview stand.
use Rattle.std.proofs.Common.{◌≡◌, ℕ, ◌≤◌, List, [], ◌∷◌, ◌++◌, length, take, sym, ◌∙◌, ap, subst, append_assoc, length-append, arith}
use Rattle.std.proofs.lemmas.List.{take_at, drop_at}
use Rattle.byteorder.specs.Endian.{big_bytes}
use Rattle.byteorder.specs.Numbers.{length-bytes_high_first}
use Rattle.card_layout.specs.Images.{bytes_at}
use Rattle.message_model.specs.Messages.{Overview, AnOverview, counted, message_bytes, IsOverview}
use Rattle.unit_messages.specs.Reading.{BeginsWith}

field_behind : (pre f rest : List ℕ) (p n : ℕ) → length pre ≡ p → length f ≡ n → bytes_at (pre ++ (f ++ rest)) p n ≡ f
field_behind pre f rest p n long size = ap (take n) (drop_at pre (f ++ rest) p long) ∙ take_at f rest n size

pub record IsLaid (m : Overview) (b : List ℕ) : Type 0 where
  pub registration : bytes_at b 407 15 ≡ m.registration
  pub now : bytes_at b 422 4 ≡ big_bytes 4 m.now
  pub begin : bytes_at b 426 4 ≡ big_bytes 4 m.begin
  pub end : bytes_at b 430 4 ≡ big_bytes 4 m.end
  pub long : 434 ≤ length b

fields_by : (sc uc vin reg now begin end more rest : List ℕ)
    → (0x76 ∷ 1 ∷ (sc ++ (uc ++ (vin ++ (reg ++ (now ++ (begin ++ (end ++ more)))))))) ++ rest ≡ (0x76 ∷ 1 ∷ (sc ++ (uc ++ vin))) ++ (reg ++ (now ++ (begin ++ (end ++ (more ++ rest)))))
fields_by sc uc vin reg now begin end more rest = simp append_assoc

pub overview_laid : (m : Overview) (rest : List ℕ) → IsOverview m → IsLaid m (message_bytes (AnOverview m) ++ rest)
overview_laid m rest is =
    let now = big_bytes 4 m.now in
    let begin = big_bytes 4 m.begin in
    let end = big_bytes 4 m.end in
    let now_long = length-bytes_high_first 4 m.now in
    let begin_long = length-bytes_high_first 4 m.begin in
    let end_long = length-bytes_high_first 4 m.end in
    let more = big_bytes 1 m.slot_status ++ (m.last_download ++ (counted 1 m.locks ++ (counted 1 m.controls ++ (m.signature ++ [])))) in
    let pre = 0x76 ∷ 1 ∷ (m.state_certificate ++ (m.unit_certificate ++ m.vin)) in
    let pre_long : length pre ≡ 407 = omega (arith, length-append m.state_certificate (m.unit_certificate ++ m.vin), length-append m.unit_certificate m.vin, is.certificates.0, is.certificates.1, is.vehicle.0) in
    let b = message_bytes (AnOverview m) ++ rest in
    let b0 : b ≡ pre ++ (m.registration ++ (now ++ (begin ++ (end ++ (more ++ rest))))) = fields_by m.state_certificate m.unit_certificate m.vin m.registration now begin end more rest in
    let pre1 = pre ++ m.registration in
    let pre1_long : length pre1 ≡ 422 = omega (arith, length-append pre m.registration, pre_long, is.vehicle.1) in
    let b1 : b ≡ pre1 ++ (now ++ (begin ++ (end ++ (more ++ rest)))) = b0 ∙ sym (append_assoc pre m.registration (now ++ (begin ++ (end ++ (more ++ rest))))) in
    let pre2 = pre1 ++ now in
    let pre2_long : length pre2 ≡ 426 = omega (arith, length-append pre1 now, pre1_long, now_long) in
    let b2 : b ≡ pre2 ++ (begin ++ (end ++ (more ++ rest))) = b1 ∙ sym (append_assoc pre1 now (begin ++ (end ++ (more ++ rest)))) in
    let pre3 = pre2 ++ begin in
    let pre3_long : length pre3 ≡ 430 = omega (arith, length-append pre2 begin, pre2_long, begin_long) in
    let b3 : b ≡ pre3 ++ (end ++ (more ++ rest)) = b2 ∙ sym (append_assoc pre2 begin (end ++ (more ++ rest))) in
    record {
      registration = ap (λ (l : List ℕ). bytes_at l 407 15) b0 ∙ field_behind pre m.registration (now ++ (begin ++ (end ++ (more ++ rest)))) 407 15 pre_long is.vehicle.1;
      now = ap (λ (l : List ℕ). bytes_at l 422 4) b1 ∙ field_behind pre1 now (begin ++ (end ++ (more ++ rest))) 422 4 pre1_long now_long;
      begin = ap (λ (l : List ℕ). bytes_at l 426 4) b2 ∙ field_behind pre2 begin (end ++ (more ++ rest)) 426 4 pre2_long begin_long;
      end = ap (λ (l : List ℕ). bytes_at l 430 4) b3 ∙ field_behind pre3 end (more ++ rest) 430 4 pre3_long end_long;
      long = omega (arith, ap length b3, length-append pre3 (end ++ (more ++ rest)), length-append end (more ++ rest), pre3_long, end_long);
    }

pub overview_front : (m : Overview) (b : List ℕ) → BeginsWith (AnOverview m) b → IsLaid m b
overview_front m b begins = subst (IsLaid m) (sym begins.spelled) (overview_laid m begins.rest begins.is_message)
