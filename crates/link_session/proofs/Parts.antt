-- A part of a message that was read, as the table of answers takes it.
use Rattle.std.proofs.Common.{◌≡◌, ℕ, zero, suc, ◌+◌, ◌-◌, ◌≤◌, List, [], ◌∷◌, length, take, drop, Option, Some, None, option_map, refl, sym, ◌∙◌, ap, subst, length-take, IfSome, arith}
use Rattle.link_model.specs.declared.request.Request.{Request}
use Rattle.message_model.specs.Messages.{Message, number_of, content_of, message_bytes}
use Rattle.message_model.specs.Sending.{message_of, content_sent}
use Rattle.link_frames.specs.Sending.{IsPart}
use Rattle.unit_messages.specs.declared.outline.Plan.{Plan}
use Rattle.unit_messages.specs.Outlines.{Outlines, IsOutlined, asked, length_of}
use Rattle.unit_messages.specs.Sent.{IsPiece}

past_two : (a b : ℕ) (c : List ℕ) (from : ℕ) → 2 ≤ from → drop from (a ∷ b ∷ c) ≡ drop (from - 2) c
past_two a b c zero h = absurd (omega arith)
past_two a b c (suc zero) h = absurd (omega arith)
past_two a b c (suc (suc n)) h =
    let same : n ≡ suc (suc n) - 2 = omega arith in
    ap (λ (k : ℕ). drop k c) same

of_message : (m : Option Message) (from len : ℕ) (items bytes : List ℕ) → 2 ≤ from → option_map message_bytes m ≡ Some bytes → len ≡ length bytes → items ≡ take 252 (drop from bytes)
    → IsPart (option_map content_of m) from (Some len) items
of_message None from len items bytes h is long cut = absurd (cc)
of_message (Some m) from len items bytes h is long cut =
    let same : message_bytes m ≡ bytes = cc in
    let more : len ≡ 2 + length (content_of m) = long ∙ ap length (sym same) ∙ two_more (number_of m) (content_of m) in
    record {
      len = ap Some more;
      bytes_are = cut ∙ ap (λ (l : List ℕ). take 252 (drop from l)) (sym same) ∙ ap (λ (l : List ℕ). take 252 l) (past_two 0x76 (number_of m) (content_of m) from h);
    }
  where
    two_more : (n : ℕ) (c : List ℕ) → length (0x76 ∷ n ∷ c) ≡ 2 + length c
    two_more n c = omega arith

-- where there is such a message
pub part_is : (x : List ℕ) (request : Request) (from len : ℕ) (items : List ℕ) → 2 ≤ from → IsPiece x request from (Some len) items → IsPart (content_sent x request) from (Some len) items
unfolding content_sent
part_is x request from len items h p = of_message (message_of x request) from len items p.0 h p.1 p.2 p.3

no_message : (m : Option Message) (from : ℕ) → m ≡ None → IsPart (option_map content_of m) from None []
no_message None from is = record { len = refl; bytes_are = refl }
no_message (Some m) from is = absurd (cc)

-- where there is none
pub no_part : (x : List ℕ) (request : Request) (from : ℕ) → message_of x request ≡ None → IsPart (content_sent x request) from None []
unfolding content_sent
no_part x request from is = no_message (message_of x request) from is

-- of the message that was outlined
pub outlined_part : (x : List ℕ) (request : Request) (o : Plan) (from : ℕ) (items : List ℕ) → 2 ≤ from → IsOutlined x request (Some o) → IsPiece x (asked o) from (Some (length_of o)) items
    → IsPart (content_sent x request) from (Some (length_of o)) items
outlined_part x request o from items h outlined piece = part_is x request from (length_of o) items h (subst (λ (r : Request). IsPiece x r from (Some (length_of o)) items) outlined.0 piece)

-- a part has at most 252 bytes
pub few_in_part : (content : Option (List ℕ)) (from : ℕ) (told : Option ℕ) (bytes : List ℕ) → IsPart content from told bytes → length bytes ≤ 252
few_in_part None from told bytes part = omega (arith, ap length part.bytes_are)
few_in_part (Some content) from told bytes part = omega (arith, ap length part.bytes_are, length-take 252 (drop (from - 2) content))

-- whatever was outlined, its image has the message
pub outlined_knows : (found : Option Plan) (x : List ℕ) (request : Request) → IsOutlined x request found → IfSome found (λ o. Outlines o x)
outlined_knows None x request is = tt
outlined_knows (Some o) x request is = is.1
