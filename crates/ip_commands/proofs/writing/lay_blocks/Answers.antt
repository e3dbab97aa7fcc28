use Rattle.std.proofs.Common.{◌++◌, refl, subst}
use Rattle.std.specs.List.{flat_map}
use Rattle.ip_sets.specs.BlocksLeft.{block_runs, blocks_may_give}
use Rattle.ip_sets.proofs.lemmas.aligned.Left.{all-aligned, all-given}
use Rattle.ip_commands.specs.Text.{block_line}
use Rattle.ip_commands.proofs.lemmas.Laid.{lays-item, lays-nothing, left-some}
use Rattle.ip_commands.proofs.lemmas.Lines.{some-block}
use Rattle.ip_commands.proofs.writing.lay_blocks.Goals as goal

-- No block was laid at first.
pub loop-block-init : goal.loop-block-init
loop-block-init g c = record { laid = lays-nothing _ _; leaves = λ _. refl }

-- One more block was laid.
pub loop-block-preserved : goal.loop-block-preserved
loop-block-preserved g c =
    let text = g.T.AddressText.text in
    let rank = g.T.Integer.rank in
    let width = g.T.Address.width in record {
      laid = lays-item (λ block. c.args.sign.now ++ block_line text rank width block) _ _ _ _ _ _ _
          c.loop-block.yielded _ c.loop-block.invariant.laid c.in_ok-make_room.ensures.laid
          c.lay_block.ensures;
      leaves = left-some _ _ _ _ c.lay_block.ensures
          (some-block c.args.sign.now text rank width c.in-Some.block);
    }

-- The blocks that came are those of what the stream may give.
pub returns : goal.returns
returns g c =
    let rank = g.T.Integer.rank in
    let width = g.T.Address.width in
    let runs_of = block_runs rank width in
    let items = c.loop-block.yielded in
    let may = g.I.Draw.may_give in
    let given = all-given rank width may items c.into_iter-block-iterator.result
    c.loop-block.block-iterator c.next.new.self c.loop-block.yielded_by c.in-None.ensures.steps in
    let at = c.blocks-block-items.ensures.gives (runs_of items)
    (subst (λ each. blocks_may_give rank may each (runs_of items))
    c.into_iter-block-iterator.ensures.into_iter_gives given) in (
      at.0,
      at.1,
      (
        flat_map (λ block. c.args.sign.now
            ++ block_line g.T.AddressText.text rank width block) items,
        record {
          canonical = g.met.I.DrawDisjoint.canonical c.args.ranges c.requires.ready at.0 at.1;
          written = record {
            blocks = items;
            aligned = all-aligned rank width may items c.into_iter-block-iterator.result
                c.loop-block.block-iterator c.loop-block.yielded_by;
            fewest = at.2;
            whole = refl;
          };
        },
        c.loop-block.invariant.laid,
        c.loop-block.invariant.leaves,
      ),
    )
