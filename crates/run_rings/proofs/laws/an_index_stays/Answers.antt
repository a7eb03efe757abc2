use Rattle.run_rings.proofs.Indices.{index-stays, lies-next, index-alone, index-itself}
use Rattle.run_rings.proofs.laws.an_index_stays.Goals as goal

pub returns : goal.returns
returns c = record { last = λ r head x y points added. (added.list points).indices_are; stays = index-stays; turn = lies-next; alone = index-alone; itself = index-itself }
