use Rattle.std.proofs.Common.{◌+◌, arith}
use Rattle.sha256_block.proofs.Ring.{at_round}
use Rattle.sha256_block.proofs.Eight.sixteen.Goals as goal

pub returns : goal.returns
returns g c m S d₀ =
    let d₁ = at_round (g.row.T + 1) (omega arith) (c.step.ensures m S d₀) in
    let d₂ = at_round (g.row.T + 2) (omega arith) (c.step-2.ensures m S d₁) in
    let d₃ = at_round (g.row.T + 3) (omega arith) (c.step-3.ensures m S d₂) in
    let d₄ = at_round (g.row.T + 4) (omega arith) (c.step-4.ensures m S d₃) in
    let d₅ = at_round (g.row.T + 5) (omega arith) (c.step-5.ensures m S d₄) in
    let d₆ = at_round (g.row.T + 6) (omega arith) (c.step-6.ensures m S d₅) in
    let d₇ = at_round (g.row.T + 7) (omega arith) (c.step-7.ensures m S d₆) in
    let d₈ = at_round (g.row.T + 8) (omega arith) (c.step-8.ensures m S d₇) in
    let d₉ = at_round (g.row.T + 9) (omega arith) (c.step-9.ensures m S d₈) in
    let d₁₀ = at_round (g.row.T + 10) (omega arith) (c.step-10.ensures m S d₉) in
    let d₁₁ = at_round (g.row.T + 11) (omega arith) (c.step-11.ensures m S d₁₀) in
    let d₁₂ = at_round (g.row.T + 12) (omega arith) (c.step-12.ensures m S d₁₁) in
    let d₁₃ = at_round (g.row.T + 13) (omega arith) (c.step-13.ensures m S d₁₂) in
    let d₁₄ = at_round (g.row.T + 14) (omega arith) (c.step-14.ensures m S d₁₃) in
    let d₁₅ = at_round (g.row.T + 15) (omega arith) (c.step-15.ensures m S d₁₄) in
    at_round (g.row.T + 16) (omega arith) (c.step-16.ensures m S d₁₅)
