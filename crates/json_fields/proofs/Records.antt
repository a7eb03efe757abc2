-- The fields of a record that are still to be written.
use Rattle.std.proofs.Common.{◌≡◌, ◌≢◌, ℕ, ◌-◌, ◌*◌, zero, suc, ◌≤◌, List, [], ◌∷◌, ◌++◌, length, take, drop, refl, ap, ◌∙◌, arith, append_assoc, length-drop}
use Rattle.json.specs.Token.{Token}
use Rattle.json.specs.Tree.{json_tokens, items_tokens, members_tokens}
use Rattle.json.specs.Json.{Json, Members}
use Rattle.json_fields.specs.declared.fields.Field.{Field}
use Rattle.json_fields.specs.declared.fields.Form.{Form}
use Rattle.json_fields.specs.Shown.{members_then, entry_shown, items_shown, width_of_record, value_shown, plain_shown, AreFields, ArePlain}

-- what is written with what the fields of the rest make, and whatever members follow, is the whole with these
pub record IsSoFar (shown : Form → List ℕ → Json) (fields : List Field) (rest : List ℕ) (old tokens : List Token) (all : Members → Members) : Type 0 where
  pub sized : width_of_record fields ≤ length rest
  pub text : (more : Members) → tokens ++ members_tokens (members_then shown fields rest more) ≡ old ++ members_tokens (all more)

-- so many fields of a table were written, of which the others can be shown
pub record HasWritten (fields : List Field) (rest : List ℕ) (old tokens : List Token) (all : Members → Members) : Type 0 where
  pub table : AreFields fields
  pub so_far : IsSoFar value_shown fields rest old tokens all

pub record HasWrittenPlain (fields : List Field) (rest : List ℕ) (old tokens : List Token) (all : Members → Members) : Type 0 where
  pub table : ArePlain fields
  pub so_far : IsSoFar plain_shown fields rest old tokens all

-- what is written with what so many records make is the whole
pub record AreSoFar (n : ℕ) (fields : List Field) (rest : List ℕ) (tokens whole : List Token) : Type 0 where
  pub sized : n * width_of_record fields ≤ length rest
  pub text : tokens ++ items_tokens (items_shown n fields rest) ≡ whole

-- one record more is written
pub one_record_more : (n : ℕ) (fields : List Field) (rest : List ℕ) (tokens after whole : List Token)
    → AreSoFar (suc n) fields rest tokens whole
    → after ≡ tokens ++ json_tokens (entry_shown fields (take (width_of_record fields) rest))
    → AreSoFar n fields (drop (width_of_record fields) rest) after whole
unfolding items_shown
one_record_more n fields rest tokens after whole so_far is =
    record {
      sized = grind (arith, length-drop (width_of_record fields) rest, so_far.sized);
      text =
          ap (λ (ts : List Token). ts ++ items_tokens (items_shown n fields (drop (width_of_record fields) rest))) is
          ∙ append_assoc tokens (json_tokens (entry_shown fields (take (width_of_record fields) rest))) (items_tokens (items_shown n fields (drop (width_of_record fields) rest)))
          ∙ so_far.text;
    }

pub one_step : (n : ℕ) (fields : List Field) (width : ℕ) (rest front behind : List ℕ) (tokens after whole : List Token)
    → n ≢ 0 → width ≡ width_of_record fields → front ≡ take width rest → behind ≡ drop width rest
    → AreSoFar n fields rest tokens whole → after ≡ tokens ++ json_tokens (entry_shown fields front)
    → AreSoFar (n - 1) fields behind after whole
one_step zero fields width rest front behind tokens after whole some wide f b so_far is = absurd (some refl)
one_step (suc n) fields width rest front behind tokens after whole some wide f b so_far is =
    let e : suc n - 1 ≡ n = omega arith in
    rw (e, b, wide) (one_record_more n fields rest tokens after whole so_far (rw (f, wide) at is))

-- no record is left
pub none_left : (n : ℕ) (fields : List Field) (rest : List ℕ) (tokens whole : List Token) → n ≡ 0 → AreSoFar n fields rest tokens whole → tokens ++ Token.end_array ∷ [] ≡ whole
unfolding items_shown
none_left zero fields rest tokens whole none so_far = so_far.text
none_left (suc n) fields rest tokens whole none so_far = absurd (omega (arith, none))
