-- What public contracts cite. It is one file, with the operators that the kit's arithmetic on whole numbers doesn't
-- have already, such as signed division, shifts and rotations.
pub mod Numbers
