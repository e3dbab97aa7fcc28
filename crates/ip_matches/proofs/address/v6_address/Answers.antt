use Rattle.ip_matches.proofs.address.v6_address.Goals as goal

pub returns-in-Err : goal.returns-in-Err
returns-in-Err c = λ n h. c.in-Err.ensures h.0 h.1
