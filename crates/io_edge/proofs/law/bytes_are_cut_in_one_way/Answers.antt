use Rattle.io_edge.proofs.LineLemmas.{cut_of, whole_lines_are, unfinished_line_is}
use Rattle.io_edge.proofs.law.bytes_are_cut_in_one_way.Goals as goal

pub returns-clause-cut : goal.returns-clause-cut
returns-clause-cut c = cut_of

pub returns-clause-one : goal.returns-clause-one
returns-clause-one c = λ bytes lines rest cut. (whole_lines_are bytes lines rest cut, unfinished_line_is bytes lines rest cut)
