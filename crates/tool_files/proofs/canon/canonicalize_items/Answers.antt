use Rattle.std.proofs.Common.{◌≡◌, ◌-◌, ◌++◌, [], length, arith, refl, rules}
use Rattle.tool_files.specs.Canon.{none}
use Rattle.tool_files.proofs.CanonLaws.{rest_shorter, rewrites_more, unwritten_there}
use Rattle.tool_files.proofs.canon.canonicalize_items.Goals as goal

pub items-init : goal.items-init
items-init c = record {
  rewrites = record { items = []; are = rw c.new-encodings.ensures.items none; whole = refl };
  within = omega arith;
}

pub returns-in-Err : goal.returns-in-Err
returns-in-Err c =
    let so_far = c.items.invariant.rewrites in
    unwritten_there c.args.order c.args.depth c.args.bytes.now so_far.items c.items.encodings.items c.items.rest.now
    (length c.args.bytes.now - length c.items.rest.now) c.in-Err.error c.error_at.result so_far.are so_far.whole
    (search rules) (omega (arith, c.items.invariant.within)) (omega arith) c.in-Err.ensures
    c.error_at.ensures

pub items-smaller : goal.items-smaller
items-smaller c =
    rest_shorter c.args.order c.args.depth c.items.rest.now c.in-Ok.found.1.now c.in-Ok.found.0.items c.in-Ok.ensures

pub items-preserved : goal.items-preserved
items-preserved c =
    let less = rest_shorter c.args.order c.args.depth c.items.rest.now c.in-Ok.found.1.now c.in-Ok.found.0.items
    c.in-Ok.ensures in
    let all : c.extend_from_slice.new.self.items ≡ c.items.encodings.items ++ c.in-Ok.found.0.items = search rules in
    record {
      rewrites = rw all (rewrites_more c.args.order c.args.depth c.args.bytes.now c.items.encodings.items
          c.items.rest.now c.in-Ok.found.1.now c.in-Ok.found.0.items c.items.invariant.rewrites c.in-Ok.ensures);
      within = omega (arith, less, c.items.invariant.within);
    }
