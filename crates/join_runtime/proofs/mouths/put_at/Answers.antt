use Rattle.join_runtime.proofs.MouthPosts.{addresses-set}
use Rattle.join_runtime.proofs.mouths.put_at.Goals as goal

pub returns-clause-same : goal.returns-clause-same
returns-clause-same g c = addresses-set c.args.mouths.now.items c.args.place c.index_mut.result.now
    c.put_into.new.slot c.index_mut.ensures.value c.put_into.ensures.same
