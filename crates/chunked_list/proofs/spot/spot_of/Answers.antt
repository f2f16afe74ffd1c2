use Rattle.std.proofs.Common.{arith}
use Rattle.chunked_list.proofs.Spots.{some_first, parted, some_before, before_place, in_chunk, at_place}
use Rattle.chunked_list.proofs.spot.spot_of.Goals as goal

pub overflow_sub-chunk : goal.overflow_sub-chunk
overflow_sub-chunk g c =
    let cs = c.args.chunks.now in
    let fs = c.args.firsts.now in
    let p = c.begun_by-chunk.result in
    let point = c.begun_by-chunk.ensures.partitioned (parted cs fs c.args.place c.requires.kept.numbers) in
    some_before cs fs c.args.place c.requires.kept.numbers p c.requires.inside point

pub overflow_sub-result : goal.overflow_sub-result
overflow_sub-result g c =
    let cs = c.args.chunks.now in
    let fs = c.args.firsts.now in
    let p = c.begun_by-chunk.result in
    let point = c.begun_by-chunk.ensures.partitioned (parted cs fs c.args.place c.requires.kept.numbers) in
    before_place cs fs c.args.place c.requires.kept.numbers p 0 c.requires.inside c.begun_by-chunk.ensures.bound point

pub returns-clause-inside : goal.returns-clause-inside
returns-clause-inside g c =
    let cs = c.args.chunks.now in
    let fs = c.args.firsts.now in
    let p = c.begun_by-chunk.result in
    let point = c.begun_by-chunk.ensures.partitioned (parted cs fs c.args.place c.requires.kept.numbers) in
    in_chunk cs fs c.args.place c.requires.kept.numbers p 0 c.requires.inside c.begun_by-chunk.ensures.bound point

pub returns-clause-place : goal.returns-clause-place
returns-clause-place g c =
    let cs = c.args.chunks.now in
    let fs = c.args.firsts.now in
    let p = c.begun_by-chunk.result in
    let point = c.begun_by-chunk.ensures.partitioned (parted cs fs c.args.place c.requires.kept.numbers) in
    at_place cs fs c.args.place c.requires.kept.numbers p 0 c.requires.inside c.begun_by-chunk.ensures.bound point

pub bounds-firsts-chunk : goal.bounds-firsts-chunk
bounds-firsts-chunk g c =
    let cs = c.args.chunks.now in
    let fs = c.args.firsts.now in
    let p = c.begun_by-chunk.result in
    let point = c.begun_by-chunk.ensures.partitioned (parted cs fs c.args.place c.requires.kept.numbers) in
    omega (arith, some_before cs fs c.args.place c.requires.kept.numbers p c.requires.inside point, c.begun_by-chunk.ensures.bound)

pub begun_by-chunk-requires : goal.begun_by-chunk-requires
begun_by-chunk-requires g c = some_first c.args.chunks.now c.args.firsts.now c.args.place c.requires.kept.numbers c.requires.inside
