-- A minute, with entries by hand before it, may come on a card in its slot, also where a repair has cut words of the start.
use Rattle.std.proofs.Common.{inl, inr, ⊎_elim, ℕ, suc, max, ◌<◌, ◌≤◌, List, arith}
use Rattle.std.proofs.lemmas.Bool.{cases_lt}
use Rattle.device_calls.specs.activity_codec.declared.entries.Entry.{Entry}
use Rattle.device_calls.specs.activity_codec.declared.entries.Manual.{Manual}
use Rattle.device_calls.specs.card_image.Own.{own_covered}
use Rattle.device_calls.specs.hand_model.Holding.{LieBetween}
use Rattle.device_calls.specs.card_by_hand.First.{ComeFrom}
use Rattle.device_calls.proofs.MinuteSaid.{first_comes}
use Rattle.run_promise.specs.Found.{CardFound}

-- they lie between the session's newest minute, which the end mark is not behind, and the minute that is present
pub hands-come : (f : CardFound) (mark newest : ℕ) (hands : List Manual) (e : Entry) → f.start.word ≤ own_covered f.image → mark ≤ newest → f.start.word < e.minute → LieBetween newest e.minute hands
    → ComeFrom mark (own_covered f.image) (suc (max f.start.word newest)) hands e
hands-come f mark newest hands e covered low late lie = ⊎_elim
    (λ cut. inr (omega (arith, cut, low, covered), omega (arith, cut, late)))
    (λ whole. inl (first_comes (suc (max f.start.word newest)) newest hands e (omega (arith, whole)) lie))
    (cases_lt newest f.start.word)
