use Rattle.std.proofs.Common.{◌^◌, ◌++◌, subst, sym}
use Rattle.std.specs.Fmt.{decimal}
use Rattle.std.specs.Io.KnownBytes.{Appends}
use Rattle.std.specs.Prelude.{OnOk, codes}
use Rattle.ip_commands.proofs.lemmas.Count.{all-v6, counted-if-ok}
use Rattle.ip_commands.proofs.commands.count.write_v6_count.Goals as goal

-- All IPv6 addresses.
pub returns-in-MaxPlusOne : goal.returns-in-MaxPlusOne
returns-in-MaxPlusOne g c =
    let blocks = c.block_count-blocks.ensures.count in
    let many = c.block_count-blocks.result in
    counted-if-ok (codes "IPv6") 128 c.args.set.now blocks.0 (2 ^ 128) many _ _
    c.write_count-in-MaxPlusOne.result c.block_count-blocks.ensures.canonical blocks.1
    c.in-MaxPlusOne.ensures blocks.2
    (subst (λ each. OnOk c.write_count-in-MaxPlusOne.result
    (Appends (g.W.Write.contents c.args.output.now)
    (g.W.Write.contents c.write_count-in-MaxPlusOne.new.output)
    (codes "IPv6" ++ codes " addresses: " ++ each ++ codes ", blocks: " ++ decimal many
    ++ codes "\n"))) (sym all-v6) c.write_count-in-MaxPlusOne.ensures)
