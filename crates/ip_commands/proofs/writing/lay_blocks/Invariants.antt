use Rattle.std.specs.List.{flat_map}
use Rattle.std.proofs.Common.{◌++◌}
use Rattle.ip_commands.specs.Page.{Lays, LeavesSome}
use Rattle.ip_commands.specs.Text.{block_line}
use Rattle.ip_commands.proofs.writing.lay_blocks.Given as goal

-- the lines of the blocks so far were laid
abbrev pub invariant-loop-block : goal.invariant-loop-block
invariant-loop-block g l =
    let lines = flat_map (λ block. l.sign
    ++ block_line g.T.AddressText.text g.T.Integer.rank g.T.Address.width block) l.yielded in
    record {
      laid : Lays (g.W.Write.contents l.initial.output) (g.W.Write.contents l.output)
          l.initial.page.items l.page.items lines;
      leaves : LeavesSome l.page.items lines;
    }
