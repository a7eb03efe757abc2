use Rattle.card_string.proofs.OfCards.{card_keep_holds, card_kept, kept_keeping_of}
use Rattle.card_string.proofs.laws.a_keep_keeps_the_string.Goals as goal

pub returns-clause-moments : goal.returns-clause-moments
returns-clause-moments c = λ s image h done es hands e odometer n next x y ready follow after keeping. card_keep_holds s image h done n hands e odometer x y ready keeping es next follow after

pub returns-clause-kept : goal.returns-clause-kept
returns-clause-kept c = λ s t image h done hands e odometer n x y ready kept.
    let moment = kept_keeping_of s t hands e odometer x y kept in
    card_kept s image h done n hands e odometer x y ready moment.0 moment.1
