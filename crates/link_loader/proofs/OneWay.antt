-- A frame is taken in one way.
use Rattle.std.proofs.Common.{◌≡◌, ◌∙◌, ℕ, List, [], Option, None, ap, sym, inl, inr, append-nil}
use Rattle.std.specs.Prelude.{is_some}
use Rattle.link_model.specs.declared.request.Request.{Request}
use Rattle.message_model.specs.Messages.{Message, message_bytes}
use Rattle.message_model.proofs.Reading.{one_way}
use Rattle.link_loader.specs.Coming.{kind_of}
use Rattle.link_loader.specs.Loading.{Loading, Takes, Finishes, goes_on, after_message}
use Rattle.link_loader.proofs.Closing.{payload}
use Rattle.link_loader.proofs.Exact.{nowhere_by}

-- a frame that finishes a message does not go on
finished_stays : (now : Loading) (frame : List ℕ) (m : Message) → Finishes now frame m → goes_on now frame ≡ None
finished_stays now frame m fin = nowhere_by now frame (kind_of now.stage frame) (ap (λ (o : Option (Request × List ℕ)). is_some o) fin.closes)

-- it finishes one message
pub one_message : (now : Loading) (frame : List ℕ) (m n : Message) → Finishes now frame m → Finishes now frame n → m ≡ n
one_message now frame m n fin other =
    let pairs = ap (payload (other.request, other.bytes)) (sym fin.closes ∙ other.closes) in
    (one_way m n [] [] fin.answer.is_message other.answer.is_message
    (append-nil (message_bytes m) ∙ sym fin.answer.spelled ∙ ap (λ (p : Request × List ℕ). p.1) pairs ∙ other.answer.spelled ∙ sym (append-nil (message_bytes n)))).0

pub taken_in_one_way : (now a b : Loading) (frame p q : List ℕ) → Takes now frame a p → Takes now frame b q → (a ≡ b) × (p ≡ q)
taken_in_one_way now a b frame p q (inl on) (inl other) = let here = on.0 in let there = other.0 in let same : a ≡ b = cc in (same, on.1 ∙ sym other.1)
taken_in_one_way now a b frame p q (inl on) (inr put) = let here = on.0 in let there = finished_stays now frame put.0 put.1 in absurd (cc)
taken_in_one_way now a b frame p q (inr put) (inl on) = let here = on.0 in let there = finished_stays now frame put.0 put.1 in absurd (cc)
taken_in_one_way now a b frame p q (inr put) (inr other) =
    let same = one_message now frame put.0 other.0 put.1 other.1 in
    (put.2 ∙ ap (λ (m : Message). after_message now m) same ∙ sym other.2, put.3 ∙ ap (λ (m : Message). message_bytes m) same ∙ sym other.3)
