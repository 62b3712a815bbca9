-- The kernel: the parameters of a filtered row, and the filtered sample of the window.
pub mod Kernel
-- Laws: the kernel's sample is the filtered sample of the plane.
pub mod ScaleLaws
pub mod ShapeLaws
pub mod TapLaws
pub mod PlaceLaws
pub mod OrderLaws
pub mod SumLaws
pub mod FinishLaws
pub mod KernelLaws
