use Rattle.manifests.proofs.Mendable.{mends, placed}
use Rattle.manifests.proofs.laws.json_texts_are_mended.Goals as goal

pub returns : goal.returns
returns c = record {
  mended = mends;
  placed = placed;
}
