-- The instances so far and those of what is left are those of all; and no fault was found before what
-- is left.
use Rattle.std.proofs.Common.{◌≡◌, ◌++◌, drop, map, true}
use Rattle.xhstt_references.specs.Directories.{part_names}
use Rattle.xhstt_resolve.specs.Limits.{earliest}
use Rattle.xhstt_resolve.specs.Parts.{parts_of}
use Rattle.xhstt_resolve.specs.Resolved.{instance_fault}
use Rattle.xhstt_resolve.proofs.resolving.made_instances.Given as goal

abbrev pub invariant-loop-raw : goal.invariant-loop-raw
invariant-loop-raw l =
    let left = drop l.raw-index l.fn.raws in
    record {
      instances : l.made.instances ++ map parts_of left ≡ map parts_of l.fn.raws;
      names : l.solved ≡ true → l.made.names ++ map part_names left ≡ map part_names l.fn.raws;
      sound : earliest (map instance_fault left) ≡ earliest (map instance_fault l.fn.raws);
    }
