use Rattle.run_rings.proofs.Carried.{carries-none, carries-more, carries-maybe, carries-still, carries-changed, entry-was, carries-gone}
use Rattle.run_rings.proofs.laws.what_a_ring_carries.Goals as goal

pub returns : goal.returns
returns c = record {
  begins = carries-none;
  added = carries-more;
  moment = carries-maybe;
  elsewhere = carries-still;
  changed = λ r start x more h c i bytes front back pointers same there alone list own older e newer are as_many. (
    entry-was r start x more h c i bytes front back pointers same there alone list own older e newer are as_many,
    carries-changed r start x more h c i bytes front back pointers same there alone list own older e newer are as_many,
  );
  gone = carries-gone;
}
